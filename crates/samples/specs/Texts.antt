-- What is printed.
use Rattle.std.specs.Prelude.{ℕ, cond, List, ◌++◌, codes, ◌==◌, Ok, Err, Result}
use Rattle.std.specs.Fmt.{decimal, signed_decimal}
use Rattle.objects.specs.declared.records.Answer.{Answer}
use Rattle.objects.specs.declared.records.Operation.{Operation}
use Rattle.objects.specs.declared.retract.NotWithdrawn.{NotWithdrawn}
use Rattle.objects.specs.Leads.{reason_text}
use Rattle.samples.specs.declared.posting.Posting.{Posting}

-- what is done to a key that stands alone, by the code
abbrev pub verb_text : ℕ → List ℕ
verb_text code =
    cond (code == 3) (codes "reads bin")
    (cond (code == 4) (codes "inserts key")
    (cond (code == 5) (codes "removes key")
    (cond (code == 6) (codes "asks for key") (cond (code == 9) (codes "drops day") (codes "finds day")))))

-- an answer that says no more than its tag
abbrev pub word_text : ℕ → List ℕ
word_text tag =
    cond (tag == 1) (codes "done")
    (cond (tag == 2) (codes "full")
    (cond (tag == 3) (codes "short")
    (cond (tag == 5) (codes "new")
    (cond (tag == 6) (codes "already")
    (cond (tag == 7) (codes "gone")
    (cond (tag == 8) (codes "absent")
    (cond (tag == 9) (codes "yes")
    (cond (tag == 10) (codes "no") (cond (tag == 13) (codes "nothing") (cond (tag == 14) (codes "closed") (codes "bad")))))))))))

abbrev pub asked_text : Operation → List ℕ
asked_text o =
    cond (o.code == 1) (codes "adds " ++ signed_decimal o.amount ++ codes " to bin " ++ decimal o.key)
    (cond (o.code == 2) (codes "takes " ++ signed_decimal o.amount ++ codes " from bin " ++ decimal o.key)
    (cond (o.code == 8) (codes "puts " ++ signed_decimal o.amount ++ codes " on day " ++ decimal o.key)
    (cond (o.code == 7) (codes "counts the keys") (verb_text o.code ++ codes " " ++ decimal o.key))))

abbrev pub told_text : Answer → List ℕ
told_text a =
    cond (a.tag == 4) (signed_decimal a.value)
    (cond (a.tag == 11) (codes "old " ++ signed_decimal a.value)
    (cond (a.tag == 12) (signed_decimal a.value ++ codes " of day " ++ decimal a.place) (word_text a.tag)))

abbrev pub posting_text : Posting → List ℕ
posting_text p = codes "order " ++ decimal p.order ++ codes " " ++ asked_text p.record.operation ++ codes ": " ++ told_text p.record.answer

abbrev pub outcome_text : Result (Unit {0}) NotWithdrawn → List ℕ
outcome_text (Ok _) = codes "withdrawn"
outcome_text (Err reason) = codes "stays: " ++ reason_text reason

abbrev pub bad_line_text : ℕ → List ℕ → List ℕ
bad_line_text line form = codes "line " ++ decimal line ++ codes " is not " ++ form
