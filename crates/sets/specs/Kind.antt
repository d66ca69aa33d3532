-- The kind of a set of keys.
use Rattle.std.specs.Prelude.{Bool, true, false, cond, List, pos, Some, None, Option, slice_set}
use Rattle.std.specs.Bool.{beq}
use Rattle.objects.specs.declared.records.Answer.{Answer}
use Rattle.objects.specs.Answers.{absent, already, answer_no, answer_yes, bad, gone, holding, new}
use Rattle.objects.specs.Kinds.{Kind}
use Rattle.objects.specs.Traces.{cleared, reverted}
use Rattle.sets.specs.Members.{Members, member, size}
use Rattle.sets.specs.Requests.{meant}
use Rattle.sets.specs.Traces.{shows, trace}
use Rattle.sets.specs.declared.request.Request.{Request}
use Rattle.sets.specs.declared.request.Request.TheVariants.{Insert, Remove, Has, Size}

abbrev pub did : List Bool → Option Request → Answer × List Bool
did s None = (bad, s)
did s (Some (Insert k)) = cond (member s k) (already, s) (new, slice_set s k true)
did s (Some (Remove k)) = cond (member s k) (gone, slice_set s k false) (absent, s)
did s (Some (Has k)) = (cond (member s k) answer_yes answer_no, s)
did s (Some Size) = (holding (pos (size s)), s)

abbrev pub key_set : Kind (List Bool)
key_set = record {
  Lawful = Members;
  ran = λ s o. did s (meant o);
  withdrawn = λ s r. reverted beq false s (trace r);
  tested = λ p q. cleared shows (trace p) (trace q);
}
