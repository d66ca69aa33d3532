-- A kind behind a filter, which passes each operation on or answers it itself.
use Rattle.std.specs.Prelude.{Bool, true, Some, None, Ok, Err, Option, Result}
use Rattle.objects.specs.declared.records.Operation.{Operation}
use Rattle.objects.specs.declared.records.Answer.{Answer}
use Rattle.objects.specs.declared.records.Record.{Record}
use Rattle.objects.specs.Answers.{answered, same}
use Rattle.objects.specs.Kinds.{Kind, provided}

-- an operation's passage: the form in which it goes below, or the filter's own answer
abbrev pub Passage : Type 0
Passage = Result Operation Answer

-- a record as the object below has it
abbrev pub passed_record : Passage → Answer → Option Record
passed_record (Ok o) a = Some (answered o a)
passed_record (Err own) a = None

module _ {S : Type 0} (k : Kind S) where
  -- what the filter answers itself leaves the state
  abbrev pub ran_past : S → Passage → Answer × S
  ran_past s (Ok o) = k.ran s o
  ran_past s (Err own) = (own, s)

  -- what passed is withdrawn below in the form in which it passed; what the filter answered is withdrawn everywhere, and what it can't have answered nowhere
  abbrev pub withdrawn_past : S → Passage → Answer → Option S
  withdrawn_past s (Ok o) a = k.withdrawn s (answered o a)
  withdrawn_past s (Err own) a = provided (same a own) s

  -- two records that both passed are tested below; what the filter answered itself has moved nothing and seen nothing
  abbrev pub tested_past : Option Record → Option Record → Bool
  tested_past (Some p) (Some q) = k.tested p q
  tested_past (Some p) None = true
  tested_past None q = true

  abbrev pub filtered : (Operation → Passage) → Kind S
  filtered passes = record {
    Lawful = k.Lawful;
    ran = λ s o. ran_past s (passes o);
    withdrawn = λ s r. withdrawn_past s (passes r.operation) r.answer;
    tested = λ p q. tested_past (passed_record (passes p.operation) p.answer) (passed_record (passes q.operation) q.answer);
  }
