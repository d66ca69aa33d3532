-- An example holds whose verdict is the test's: the rest are the laws.
use Rattle.std.proofs.Common.{◌≡◌, Bool, true, List}
use lib.Signed.{le_z_yes}
use Rattle.std.specs.Bool.{beq}
use Rattle.std.specs.List.{All, list_all}
use Rattle.objects.proofs.Judged.{all_by_test, judged}
use Rattle.objects.specs.Kinds.{Laws}
use Rattle.counters.specs.Counts.{ceiling}
use Rattle.counters.specs.Lemmas.Laws.{bank_laws}
use Rattle.worked.specs.Examples.{Example, pair, Subject, counter_bank, kind, Holds}

subject_laws : (x : Subject) → Laws (kind x)
subject_laws counter_bank = bank_laws ceiling (le_z_yes tt)

abbrev pub right : Example → Bool
right (pair x p q verdict) = beq ((kind x).tested p q) verdict

holds : (e : Example) → right e ≡ true → Holds e
holds (pair x p q verdict) is = judged (kind x) (subject_laws x) p q verdict is

pub all_hold : (es : List Example) → list_all right es ≡ true → All Holds es
all_hold es h = all_by_test right Holds holds es h
