-- How many members a set has, and a set with as many as wanted.
use Rattle.std.specs.Prelude.{◌≡◌, ℕ, ◌+◌, ◌-◌, ◌<◌, ◌≤◌, Bool, true, false, cond, not, List, ◌++◌, length, set, replicate, ◌≢◌, refl}
use Rattle.std.proofs.Common.{ap, subst, ◌∙◌, ⊎_elim, arith, rules}
use Rattle.std.proofs.lemmas.List.{places, get_or-set_other, get_or-set_same, length-append, length-replicate, length-set}
use Rattle.std.proofs.lemmas.List.Folds.{sum_by-replicate}
use Rattle.std.proofs.lemmas.List.Sums.{count_by-le-length, sum_by-append, sum_by-set}
use Rattle.std.proofs.lemmas.Bool.{cases_lt}
use Rattle.sets.specs.Members.{Members, keys, member, size}

abbrev pub one : Bool → ℕ
one b = cond b 1 0

pub size_set : (s : List Bool) (k : ℕ) (b : Bool) → k < length s → size (set s k b) + one (member s k) ≡ size s + one b
unfolding size
size_set s k b h = sum_by-set one s k b false h

pub size_most : (s : List Bool) → Members s → size s ≤ keys
unfolding size
size_most s members = omega (arith, count_by-le-length (λ b. b) s, members.many)

module _ (s : List Bool) (k : ℕ) (members : Members s) (there : k < keys) where
  k_in : k < length s
  k_in = omega (arith, members.many)

  -- a member makes at least one, a key that is none leaves one out
  pub size_with : member s k ≡ true → 0 < size s
  size_with is = omega (arith, size_set s k false k_in, ap one is)

  pub size_without : member s k ≡ false → size s < keys
  size_without is =
      omega (arith, size_set s k true k_in, ap one is, size_most (set s k true) (record { many = length-set s k true ∙ members.many }))

-- the first n keys
abbrev pub first : ℕ → List Bool
first n = replicate n true ++ replicate (keys - n) false

pub first_members : (n : ℕ) → n ≤ keys → Members (first n)
first_members n h = record { many = simp (length-append, length-replicate) (omega arith) }

first_in : (n k : ℕ) → k < n → member (first n) k ≡ true
first_in n k h = search (rules, places)

first_out : (n k : ℕ) → n ≤ k → k < keys → member (first n) k ≡ false
first_out n k h there = search (rules, places)

pub size_first : (n : ℕ) → size (first n) ≡ n
unfolding size
size_first n =
    sum_by-append one (replicate n true) (replicate (keys - n) false) ∙ omega (arith, sum_by-replicate one n true, sum_by-replicate one (keys - n) false)

-- a set of n members, of which k is one, or isn't
pub record Sized (k : ℕ) (b : Bool) (n : ℕ) : Type 0 where
  pub state : List Bool
  pub members : Members state
  pub holds : member state k ≡ b
  pub many : size state ≡ n

-- the memberships of j and k exchanged
exchanged : (s : List Bool) (j k : ℕ) (b : Bool) → Members s → j < keys → k < keys → (k ≢ j) → member s j ≡ b → member s k ≡ not b → Sized k b (size s)
exchanged s j k b members hj hk ne is other =
    let t = set s j (not b) in
    let many : length t ≡ keys = length-set s j (not b) ∙ members.many in
    let was : member t k ≡ not b = get_or-set_other s j k (not b) false ne ∙ other in
    let there : k < length t = omega (arith, many) in
    record {
      state = set t k b;
      members = record { many = length-set t k b ∙ many };
      holds = get_or-set_same t k b false there;
      many = grind (arith, size_set t k b there, size_set s j (not b) (omega (arith, members.many)));
    }

pub sized : (k n : ℕ) (b : Bool) → k < keys → n ≤ keys → (b ≡ true → 0 < n) → (b ≡ false → n < keys) → Sized k b n
sized k n true there most some less = ⊎_elim inside beyond (cases_lt k n)
  where
    inside : k < n → Sized k true n
    inside h = record { state = first n; members = first_members n most; holds = first_in n k h; many = size_first n }

    beyond : n ≤ k → Sized k true n
    beyond h =
        let least = some refl in
        subst (Sized k true) (size_first n) (exchanged (first n) 0 k true (first_members n most) (omega arith) there (λ e. omega arith) (first_in n 0 least) (first_out n k h there))
sized k n false there most some less = ⊎_elim inside beyond (cases_lt k n)
  where
    inside : k < n → Sized k false n
    inside h =
        let room = less refl in
        subst (Sized k false) (size_first n) (exchanged (first n) 255 k false (first_members n most) (omega arith) there (λ e. omega arith) (first_out n 255 (omega arith) (omega arith)) (first_in n k h))

    beyond : n ≤ k → Sized k false n
    beyond h = record { state = first n; members = first_members n most; holds = first_out n k h there; many = size_first n }
