-- The tally of all pairs, made of the rows of one earlier record each.
use Rattle.std.proofs.Common.{◌≡◌, ℕ, ◌+◌, ◌*◌, ◌^◌, ◌<◌, ◌≤◌, suc, Bool, not, cond, List, [], ◌∷◌, ◌++◌, length, map, take, get_or, arith, sym, ap, ◌∙◌, append-nil, zero-mul}
use Rattle.std.specs.List.{flat_map, count_by}
use Rattle.std.proofs.lemmas.List.{take_more, length-append, length-map, length-take-le}
use Rattle.std.proofs.lemmas.List.Concat.{flat_map-append}
use Rattle.std.proofs.lemmas.List.Folds.{fold-map}
use Rattle.std.proofs.lemmas.List.Sums.{sum_by-append}
use Rattle.std.proofs.lemmas.Nat.{mul-le, mul-lt}
use Rattle.std.proofs.Math.Nat.{suc-mul}
use Rattle.objects.specs.declared.records.Record.{Record}
use Rattle.trials.specs.declared.tallies.Tally.{Tally}
use Rattle.trials.specs.Tallies.{Tallies}

-- one record, as the earlier one, with each
abbrev pub pairs_of : List Record → Record → List (Record × Record)
pairs_of rs p = map (λ q. (p, q)) rs

abbrev pub added : Tally → Tally → Tally
added a b = record { passed = a.passed + b.passed; refused = a.refused + b.refused; differ = a.differ + b.differ }

count_by-append : {X : Type 0} (test : X → Bool) (xs ys : List X) → count_by test (xs ++ ys) ≡ count_by test xs + count_by test ys
count_by-append test xs ys = sum_by-append (λ x. cond (test x) 1 0) xs ys

pub Tallies-append : {X : Type 0} (test : X → Bool) (xs ys : List X) (a b : Tally) → Tallies test xs a → Tallies test ys b → Tallies test (xs ++ ys) (added a b)
Tallies-append test xs ys a b t u = record {
  passed = omega (arith, count_by-append test xs ys, t.passed, u.passed);
  refused = omega (arith, count_by-append (λ x. not (test x)) xs ys, t.refused, u.refused);
  both = omega (arith, length-append xs ys, t.both, u.both);
  differ = omega (arith, length-append xs ys, t.differ, u.differ);
}

count_by-map : {X Y : Type 0} (test : Y → Bool) (f : X → Y) (xs : List X) → count_by test (map f xs) ≡ count_by (λ x. test (f x)) xs
count_by-map test f xs = fold-map (λ n y. n + cond (test y) 1 0) f 0 xs

Tallies-map : {X Y : Type 0} (test : Y → Bool) (f : X → Y) (xs : List X) (a : Tally) → Tallies (λ x. test (f x)) xs a → Tallies test (map f xs) a
Tallies-map test f xs a t = record {
  passed = t.passed ∙ sym (count_by-map test f xs);
  refused = t.refused ∙ sym (count_by-map (λ y. not (test y)) f xs);
  both = t.both ∙ sym (length-map xs f);
  differ = omega (arith, length-map xs f, t.differ);
}

-- one row more
pub rows_more : (test : Record × Record → Bool) (rs : List Record) (i : ℕ) (d : Record) (a b : Tally) → i < length rs → Tallies test (flat_map (pairs_of rs) (take i rs)) a → Tallies (λ q. test (get_or rs i d, q)) rs b → Tallies test (flat_map (pairs_of rs) (take (i + 1) rs)) (added a b)
rows_more test rs i d a b here t u =
    let p : Record = get_or rs i d in
    let split : flat_map (pairs_of rs) (take (i + 1) rs) ≡ flat_map (pairs_of rs) (take i rs) ++ (pairs_of rs p ++ []) = rw (take_more rs i d here) (flat_map-append (pairs_of rs) (take i rs) (p ∷ [])) in
    rw (split, append-nil) (Tallies-append test (flat_map (pairs_of rs) (take i rs)) (pairs_of rs p) a b t (Tallies-map test (λ q. (p, q)) rs b u))

length-pairs_of : (rs : List Record) (p : Record) → length (pairs_of rs p) ≡ length rs
length-pairs_of rs p = length-map {B = Record × Record} rs (λ q. (p, q))

-- each record has as many pairs as there are records
length-rows : (rs ps : List Record) → length (flat_map (pairs_of rs) ps) ≡ length ps * length rs
length-rows rs [] = sym (zero-mul (length rs))
length-rows rs (p ∷ ps) = omega (arith, length-append (pairs_of rs p) (flat_map (pairs_of rs) ps), length-pairs_of rs p, length-rows rs ps, suc-mul (length ps) (length rs))

-- a u128 counts the pairs of the rows so far and of one more
pub rows_fit : (rs : List Record) (i : ℕ) → i < length rs → length rs < 2 ^ 64 → length (flat_map (pairs_of rs) (take i rs)) + length rs < 2 ^ 128
rows_fit rs i here short =
    let n : ℕ = length rs in
    let all : n * n < 2 ^ 128 = mul-lt n n (2 ^ 64) (2 ^ 64) short short in
    let so_far : length (take i rs) ≡ i = length-take-le i rs (omega arith) in
    let few : suc i * n ≤ n * n = mul-le (suc i) n n n (omega arith) (omega arith) in
    omega (arith, all, few, length-rows rs (take i rs), ap (λ m. m * n) so_far, suc-mul i n)
