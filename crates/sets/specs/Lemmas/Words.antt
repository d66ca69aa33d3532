-- The four words, read as members.
use Rattle.std.specs.Prelude.{◌≡◌, ℕ, zero, suc, ◌+◌, ◌*◌, ◌/◌, ◌%◌, ◌^◌, ◌<◌, ◌≤◌, Bool, false, not, List, map, length, get_or, count_by, ◌==◌, ◌≢◌, bit_xor, slice_index, slice_set, refl, true, is_some, Some, None}
use Rattle.std.proofs.lemmas.Bool.{cond-true, not-false}
use Rattle.std.proofs.Common.{sym, ap, ap₂, ◌∙◌, add-zero, zero-add, arith}
use Rattle.std.specs.Bool.{beq}
use Rattle.std.specs.Cmp.{booleans_Decides}
use Rattle.std.specs.Int.{bit_at}
use Rattle.std.specs.Int.Count.{ones, ones-ones}
use Rattle.std.proofs.lemmas.Nat.Bits.{bit_at_xor, bit_at-lt, bit_at-pow_same, bit_at-pow_other}
use Rattle.std.proofs.lemmas.Bool.Decides.{nat_tests}
use Rattle.std.specs.List.{range_with_len}
use Rattle.std.specs.Option.{unwrap_or}
use Rattle.std.proofs.lemmas.Nat.{div-mul-add, mod_below, mod-mul-add, mod-pow-add, one_shl, pow_pos, ones_cat}
use Rattle.std.proofs.lemmas.List.FromFn.{get_or-map-range_with_len, length-map-range_with_len, sum_by-map-range_with_len_more}
use Rattle.std.proofs.lemmas.List.{ext_get_or, get_or_past, get_or-set_same, get_or-set_other, length-set, set_past}
use Rattle.sets.specs.Members.{Members, keys, member, size, turned}
use Rattle.sets.specs.Words.{bit, members_of}
use Rattle.sets.specs.Lemmas.Counted.{one}

abbrev pub word : List ℕ → ℕ → ℕ
word words k = slice_index words (k / 64)

pub members_many : (words : List ℕ) → length (members_of words) ≡ keys
unfolding members_of
members_many words = length-map-range_with_len (λ k. bit (word words k) (k % 64)) 0 keys

pub members_lawful : (words : List ℕ) → Members (members_of words)
members_lawful words = record { many = members_many words }

pub member_bit : (words : List ℕ) (k : ℕ) → k < keys → member (members_of words) k ≡ bit (word words k) (k % 64)
unfolding members_of
member_bit words k h = get_or-map-range_with_len (λ j. bit (word words j) (j % 64)) 0 keys k k false h (zero-add k)

pub member_past : (words : List ℕ) (k : ℕ) → keys ≤ k → member (members_of words) k ≡ false
member_past words k h = get_or_past (members_of words) k false (omega (arith, members_many words))

-- one bit turned over, and the others
bit_turned : (w i : ℕ) → bit (bit_xor w (2 ^ i)) i ≡ not (bit w i)
bit_turned w i = grind (arith, nat_tests, bit_at_xor w (2 ^ i) i, bit_at-pow_same i, bit_at-lt w i)

bit_kept : (w i j : ℕ) → (j ≢ i) → bit (bit_xor w (2 ^ i)) j ≡ bit w j
bit_kept w i j ne = grind (arith, nat_tests, bit_at_xor w (2 ^ i) j, bit_at-pow_other i j ne, bit_at-lt w j)

-- the words with the bit of key k turned over
abbrev pub turned_words : List ℕ → ℕ → List ℕ
turned_words words k = slice_set words (k / 64) (bit_xor (word words k) (2 ^ (k % 64)))

module _ (words : List ℕ) (k : ℕ) (four : length words ≡ 4) (there : k < keys) where
  turned_at : (j : ℕ) → j < keys → member (members_of (turned_words words k)) j ≡ member (slice_set (members_of words) k (not (member (members_of words) k))) j
  turned_at j h =
      grind (arith, member_bit, members_many, bit_turned, bit_kept, get_or-set_same {A = ℕ}, get_or-set_other {A = ℕ}, get_or-set_same {A = Bool}, get_or-set_other {A = Bool})

  pub members_turned : members_of (turned_words words k) ≡ slice_set (members_of words) k (not (member (members_of words) k))
  members_turned =
      ext_get_or false _ _ (simp (length-set, members_many)) (λ j h. turned_at j (omega (arith, members_many (turned_words words k))))

-- how many of the keys below n are members
counted : List ℕ → ℕ → ℕ
counted words n = count_by (λ b. b) (map (λ k. bit (word words k) (k % 64)) (range_with_len 0 n))

one_bit : (x : ℕ) → x < 2 → ones x ≡ one (x == 1)
one_bit x h = grind (arith, nat_tests, ones-ones 0, ones-ones 1)

ones_more : (w n : ℕ) → ones (w % 2 ^ suc n) ≡ ones (w % 2 ^ n) + one (bit w n)
ones_more w n =
    let next : suc n ≡ 1 + n = omega arith in
    ap (λ m. ones (w % 2 ^ m)) next
    ∙ ap ones (mod-pow-add w 1 n)
    ∙ ones_cat n (w / 2 ^ n % 2) (w % 2 ^ n) (mod_below w (2 ^ n) (pow_pos n))
    ∙ omega (arith, one_bit (bit_at w n) (bit_at-lt w n))

counted_in : (words : List ℕ) (i n : ℕ) → n ≤ 64 → counted words (i * 64 + n) ≡ counted words (i * 64) + ones (slice_index words i % 2 ^ n)
unfolding counted
counted_in words i zero h =
    let none : ones (slice_index words i % 1) ≡ 0 = ap ones (omega arith) ∙ ones-ones 0 in
    ap (counted words) (add-zero (i * 64)) ∙ sym (ap (λ x. counted words (i * 64) + x) none ∙ add-zero (counted words (i * 64)))
counted_in words i (suc n) h =
    let w = get_or words i 0 in
    let at : bit (word words (i * 64 + n)) ((i * 64 + n) % 64) ≡ bit w n =
    ap₂ (λ j m. bit (slice_index words j) m) (div-mul-add i 64 n (omega arith)) (mod-mul-add i 64 n (omega arith)) in
    let next : i * 64 + suc n ≡ i * 64 + n + 1 = omega arith in
    let step : counted words (i * 64 + n + 1) ≡ counted words (i * 64 + n) + one (bit (word words (i * 64 + n)) ((i * 64 + n) % 64)) =
    sum_by-map-range_with_len_more one (λ k. bit (word words k) (k % 64)) 0 (i * 64 + n) (i * 64 + n) (zero-add (i * 64 + n)) in
    ap (counted words) next ∙ omega (arith, step, ap one at, counted_in words i n (omega arith), ones_more w n)

counted_word : (words : List ℕ) (i : ℕ) → slice_index words i < 2 ^ 64 → counted words (i * 64 + 64) ≡ counted words (i * 64) + ones (slice_index words i)
counted_word words i h = let whole : get_or words i 0 % 2 ^ 64 ≡ get_or words i 0 = omega arith in counted_in words i 64 (omega arith) ∙ ap (λ w. counted words (i * 64) + ones w) whole

counted_none : (words : List ℕ) → counted words 0 ≡ 0
unfolding counted
counted_none words = refl

size_is : (words : List ℕ) → size (members_of words) ≡ counted words 256
unfolding counted size members_of
size_is words = refl

pub size_counted : (words : List ℕ) → slice_index words 0 < 2 ^ 64 → slice_index words 1 < 2 ^ 64 → slice_index words 2 < 2 ^ 64 → slice_index words 3 < 2 ^ 64 → size (members_of words) ≡ ones (slice_index words 0) + ones (slice_index words 1) + ones (slice_index words 2) + ones (slice_index words 3)
size_counted words a b c d =
    omega (arith, size_is words, counted_none words, counted_word words 0 a, counted_word words 1 b, counted_word words 2 c, counted_word words 3 d)

-- a turn of a key that is `from`
turned_over : (s : List Bool) (k : ℕ) (from b : Bool) → b ≡ member s k → not (beq b from) ≡ false → unwrap_or (turned s k from) s ≡ slice_set s k (not b)
turned_over s k from b is meant = grind (arith, booleans_Decides)

-- as the code makes it: in the key's word, and not at all past the last key
module _ (words : List ℕ) (k : ℕ) (from b : Bool) (is : b ≡ member (members_of words) k) (meant : not (beq b from) ≡ false) where
  pub turn_made : length words ≡ 4 → k < keys →
      (true ≡ is_some (turned (members_of words) k from)) × (members_of (slice_set words (k / 64) (bit_xor (word words k) (1 * 2 ^ (k % 64) % 2 ^ 64))) ≡ unwrap_or (turned (members_of words) k from) (members_of words))
  turn_made four there = (
    sym (ap is_some (cond-true (beq (member (members_of words) k) from) (Some (slice_set (members_of words) k (not from))) None (ap (λ x. beq x from) (sym is) ∙ not-false _ meant))),
    cc (one_shl (k % 64) 64 (mod_below k 64 (omega arith)), members_turned words k four there, turned_over (members_of words) k from b is meant),
  )

  pub turn_past : keys ≤ k → members_of words ≡ unwrap_or (turned (members_of words) k from) (members_of words)
  turn_past h =
      sym (turned_over (members_of words) k from b is meant ∙ set_past (members_of words) k (not b) (omega (arith, members_many words)))
