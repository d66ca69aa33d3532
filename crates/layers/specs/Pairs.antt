-- Two kinds side by side: an even unit goes left, an odd one right, halved downwards.
use Rattle.std.specs.Prelude.{◌/◌, ◌%◌, Bool, true, false, Option, ◌==◌}
use Rattle.std.specs.Option.{option_map}
use Rattle.objects.specs.declared.records.Operation.{Operation}
use Rattle.objects.specs.declared.records.Answer.{Answer}
use Rattle.objects.specs.declared.records.Record.{Record}
use Rattle.objects.specs.Answers.{answered}
use Rattle.objects.specs.Kinds.{Kind}

abbrev pub goes_left : Operation → Bool
goes_left o = o.unit % 2 == 0

abbrev pub halved : Operation → Operation
halved o = record { code = o.code; unit = o.unit / 2; key = o.key; amount = o.amount }

abbrev pub halved_record : Record → Record
halved_record r = answered (halved r.operation) r.answer

module _ {S T : Type 0} (a : Kind S) (b : Kind T) where
  -- each side alone: the other one's state stays
  abbrev pub ran_on : S × T → Operation → Bool → Answer × (S × T)
  ran_on s o true = let r = a.ran s.0 o in (r.0, (r.1, s.1))
  ran_on s o false = let r = b.ran s.1 o in (r.0, (s.0, r.1))

  abbrev pub withdrawn_on : S × T → Record → Bool → Option (S × T)
  withdrawn_on s r true = option_map (λ x. (x, s.1)) (a.withdrawn s.0 r)
  withdrawn_on s r false = option_map (λ y. (s.0, y)) (b.withdrawn s.1 r)

  -- on different sides nothing meets
  abbrev pub tested_on : Record → Record → Bool → Bool → Bool
  tested_on p q true true = a.tested p q
  tested_on p q false false = b.tested p q
  tested_on p q true false = true
  tested_on p q false true = true

  abbrev pub paired : Kind (S × T)
  paired = record {
    Lawful = λ s. a.Lawful s.0 × b.Lawful s.1;
    ran = λ s o. ran_on s (halved o) (goes_left o);
    withdrawn = λ s r. withdrawn_on s (halved_record r) (goes_left r.operation);
    tested = λ p q. tested_on (halved_record p) (halved_record q) (goes_left p.operation) (goes_left q.operation);
  }
