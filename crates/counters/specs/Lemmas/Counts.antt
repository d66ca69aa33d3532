-- What is known of counts within their range.
use Rattle.std.specs.Prelude.{◌≡◌, ℕ, ◌<◌, ◌≤◌, ◌⊎◌, List, length, get_or, set, replicate, ℤ, pos, ◌+ℤ◌, ◌≤ℤ◌, ◌≢◌, slice_index_or, slice_set}
use Rattle.std.proofs.Common.{sym, ap, subst, ◌∙◌, inl, inr, ⊎_elim, arith}
use Rattle.std.proofs.lemmas.List.{get_or_past, get_or-replicate, get_or-set_same, get_or-set_other, length-replicate, length-set, set_comm, set-get_or, set-set}
use Rattle.std.proofs.lemmas.Bool.{cases_eq, cases_lt}
use Rattle.std.proofs.lemmas.Int.{ints}
use Rattle.counters.specs.Counts.{Counts, Each, Within, counters, held, moved, zeros}

-- zero is in every range
pub zero_within : (c : ℤ) → pos 0 ≤ℤ c → Within c (pos 0)
zero_within c least = (omega (arith, ints), least)

pub all_each : (c x : ℤ) → Within c x → Each c (replicate counters x)
all_each c x within k h = subst (Within c) (sym (get_or-replicate counters k x (pos 0) h)) within

pub zeros_counts : (c : ℤ) → pos 0 ≤ℤ c → Counts c zeros
zeros_counts c least = record { many = length-replicate counters (pos 0); each = all_each c (pos 0) (zero_within c least) }

pub counts_set : (c : ℤ) (s : List ℤ) (k : ℕ) (v : ℤ) → Counts c s → Within c v → Counts c (slice_set s k v)
counts_set c s k v counts within = record { many = length-set s k v ∙ counts.many; each = λ j h. ⊎_elim (here j h) (there j h) (cases_eq j k) }
  where
    here : (j : ℕ) → j < counters → j ≡ k → Within c (slice_index_or (slice_set s k v) j (pos 0))
    here j h e = let k_in : k < length s = omega (arith, counts.many) in subst (Within c) (sym (ap (λ i. get_or (slice_set s k v) i (pos 0)) e ∙ get_or-set_same s k v (pos 0) k_in)) within

    there : (j : ℕ) → j < counters → (j ≢ k) → Within c (slice_index_or (slice_set s k v) j (pos 0))
    there j h ne = subst (Within c) (sym (get_or-set_other s k j v (pos 0) ne)) (counts.each j h)

pub held_within : (c : ℤ) (s : List ℤ) (k : ℕ) → pos 0 ≤ℤ c → Counts c s → Within c (held s k)
held_within c s k least counts = ⊎_elim (λ h. counts.each k h) beyond (cases_lt k counters)
  where
    beyond : counters ≤ k → Within c (held s k)
    beyond h = subst (Within c) (sym (get_or_past s k (pos 0) (omega (arith, counts.many)))) (zero_within c least)

-- a counter that exists, or a move by nothing
abbrev pub Movable : ℕ → ℤ → Type 0
Movable k by = (k < counters) ⊎ (by ≡ pos 0)

add_nothing : (x by : ℤ) → by ≡ pos 0 → x +ℤ by ≡ x
add_nothing x by e = omega (arith, ints)

pub moved_nothing : (s : List ℤ) (k : ℕ) (by : ℤ) → by ≡ pos 0 → moved s k by ≡ s
moved_nothing s k by e = ap (set s k) (add_nothing (held s k) by e) ∙ set-get_or s k (pos 0)

-- what the counter holds that was moved, and another one
pub held_moved : (s : List ℤ) (k : ℕ) (by : ℤ) → length s ≡ counters → Movable k by → held (moved s k by) k ≡ held s k +ℤ by
held_moved s k by many = elim [ inl h ↦ get_or-set_same s k (held s k +ℤ by) (pos 0) (omega (arith, many)) | inr e ↦ ap (λ x. held x k) (moved_nothing s k by e) ∙ sym (add_nothing (held s k) by e) ]

pub held_other : (s : List ℤ) (j k : ℕ) (by : ℤ) → (k ≢ j) → held (moved s j by) k ≡ held s k
held_other s j k by ne = get_or-set_other s j k (held s j +ℤ by) (pos 0) ne

-- two moves of one counter, and of two
pub moved_moved : (s : List ℤ) (k : ℕ) (a b : ℤ) → length s ≡ counters → Movable k a → moved (moved s k a) k b ≡ slice_set s k ((held s k +ℤ a) +ℤ b)
moved_moved s k a b many can = ap (λ x. set (moved s k a) k (x +ℤ b)) (held_moved s k a many can) ∙ set-set s k (held s k +ℤ a) ((held s k +ℤ a) +ℤ b)

pub moves_commute : (s : List ℤ) (k : ℕ) (a b : ℤ) → length s ≡ counters → Movable k a → Movable k b → moved (moved s k a) k b ≡ moved (moved s k b) k a
moves_commute s k a b many ca cb =
    let swap : (held s k +ℤ a) +ℤ b ≡ (held s k +ℤ b) +ℤ a = omega (arith, ints) in
    moved_moved s k a b many ca ∙ ap (set s k) swap ∙ sym (moved_moved s k b a many cb)

pub moves_apart : (s : List ℤ) (j k : ℕ) (a b : ℤ) → (k ≢ j) → moved (moved s j a) k b ≡ moved (moved s k b) j a
moves_apart s j k a b ne =
    ap (λ x. set (moved s j a) k (x +ℤ b)) (held_other s j k a ne)
    ∙ set_comm s j k (held s j +ℤ a) (held s k +ℤ b) (λ e. ne (sym e))
    ∙ sym (ap (λ x. set (moved s k b) j (x +ℤ a)) (held_other s k j b (λ e. ne (sym e))))

pub counts_moved : (c : ℤ) (s : List ℤ) (k : ℕ) (by : ℤ) → Counts c s → Within c (held s k +ℤ by) → Counts c (moved s k by)
counts_moved c s k by counts within = counts_set c s k (held s k +ℤ by) counts within

-- counts that are x at the counter k and 0 elsewhere
abbrev pub only : ℕ → ℤ → List ℤ
only k x = slice_set zeros k x

pub held_only : (k : ℕ) (x : ℤ) → k < counters → held (only k x) k ≡ x
held_only k x there = get_or-set_same zeros k x (pos 0) there

pub counts_only : (c : ℤ) (k : ℕ) (x : ℤ) → pos 0 ≤ℤ c → Within c x → Counts c (only k x)
counts_only c k x least within = counts_set c zeros k x (zeros_counts c least) within
