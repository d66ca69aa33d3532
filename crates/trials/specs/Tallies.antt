-- What a tally says of a test and of what was tested.
use Rattle.std.specs.Prelude.{◌≡◌, ℕ, ◌+◌, ◌≤◌, Bool, not, List, ◌++◌, codes, length, map, flat_map, count_by}
use Rattle.std.specs.Fmt.{decimal}
use Rattle.objects.specs.declared.records.Record.{Record}
use Rattle.trials.specs.declared.tallies.Tally.{Tally}

-- each record, as the earlier one, with each, as the later one
abbrev pub pairs : List Record → List (Record × Record)
pairs rs = flat_map (λ p. map (λ q. (p, q)) rs) rs

pub record Tallies {X : Type 0} (test : X → Bool) (xs : List X) (t : Tally) : Type 0 where
  pub passed : t.passed ≡ count_by test xs
  pub refused : t.refused ≡ count_by (λ x. not (test x)) xs
  pub both : t.passed + t.refused ≡ length xs
  pub differ : t.differ ≤ length xs

-- a tally in words
abbrev pub text : Tally → List ℕ
text t = codes "of their pairs " ++ decimal t.passed ++ codes " pass the test, " ++ decimal t.refused ++ codes " do not, " ++ decimal t.differ ++ codes " differ from the law"
