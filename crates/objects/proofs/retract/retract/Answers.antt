use Rattle.std.proofs.Common.{true, false, sym, refl, ◌∙◌, below_more}
use Rattle.objects.proofs.Retractions.{all_pass, did_not_run, none_left, runs_on, said}
use Rattle.objects.proofs.retract.retract.Goals as goal

pub returns-then-not-test : goal.returns-then-not-test
returns-then-not-test g c =
    let kind = g.O.Object.kind (g.O.Object.fixed c.args.object.now) in
    let refused = said kind c.args.earlier.now c.args.later.now c.loop-i.i _ false c.loop-i-test.true c.if-not-test.ensures in
    record { answer = (c.loop-i.invariant, c.loop-i-test.true, refused); moves = refl; keeps = refl; never = tt }

pub loop-i-preserved : goal.loop-i-preserved
loop-i-preserved g c =
    let kind = g.O.Object.kind (g.O.Object.fixed c.args.object.now) in
    below_more _ _ c.loop-i.invariant (said kind c.args.earlier.now c.args.later.now c.loop-i.i _ true c.loop-i-test.true c.if-not-test.ensures)

pub returns-then-withdraw : goal.returns-then-withdraw
returns-then-withdraw g c =
    let object = c.args.object.now in
    let kind = g.O.Object.kind (g.O.Object.fixed object) in
    let passes = all_pass kind c.args.earlier.now c.args.later.now c.loop-i.i c.loop-i-test.false c.loop-i.invariant in
    record {
      answer = (passes, sym c.if-withdraw.ensures.applies);
      moves = c.withdraw.ensures.moves;
      keeps = c.withdraw.ensures.keeps;
      never = runs_on kind _ _ (g.met.O.Object.laws object) _ passes _ c.withdraw.ensures.moves;
    }

pub returns-else-withdraw : goal.returns-else-withdraw
returns-else-withdraw g c =
    let object = c.args.object.now in
    let kind = g.O.Object.kind (g.O.Object.fixed object) in
    let passes = all_pass kind c.args.earlier.now c.args.later.now c.loop-i.i c.loop-i-test.false c.loop-i.invariant in
    let fails = sym c.if-withdraw.ensures.applies in
    record {
      answer = (passes, fails);
      moves = c.withdraw.ensures.moves ∙ none_left _ _ fails;
      keeps = c.withdraw.ensures.keeps;
      never = did_not_run kind _ _ (g.met.O.Object.laws object) _ passes fails;
    }
