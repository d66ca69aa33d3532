-- What a value that stands under one of two tests tells.
use Rattle.std.proofs.Common.{◌≡◌, Bool, true, false, Some, refl, subst}
use Rattle.std.proofs.lemmas.Option.{cond_some}
use Rattle.objects.specs.Traces.{either}

pub either_both : {A : Type 0} (b c : Bool) (x y : A) (P : A → Type 0) → (b ≡ true → P x) → (c ≡ true → P y) → (z : A) → either b x c y ≡ Some z → P z
either_both true c x y P first second z e = let told : x ≡ z = cc in subst P told (first refl)
either_both false c x y P first second z e = let told = cond_some c y z e in subst P told.1 (second told.0)
