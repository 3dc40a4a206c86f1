-- Each step reads the table at the key at hand.
use Rattle.std.proofs.Common.{◌≡◌, ◌-◌, ◌<◌, length, ap, sym, ◌∙◌, subst, arith, Some, None, slice_index_or, suc}
use Rattle.std.proofs.lemmas.Grind.{common_steps}
use Rattle.face_curves.specs.Followers.{follower}
use Rattle.face_curves.proofs.LoopFrom.{Walked, Walked-first, Walked-none, Walked-turn, Walked-below, Walked-on}
use Rattle.face_curves.proofs.followers.Followers.loop_from.Goals as goal

pub loop-keys-init : goal.loop-keys-init
loop-keys-init c = record {
  low = c.requires;
  walked = λ cs follows. subst (λ ks. Walked cs c.args.key ks c.args.key (16 - length ks))
      (sym c.new-keys.ensures) (Walked-first cs c.args.key);
}

pub returns-in_err-at : goal.returns-in_err-at
returns-in_err-at c = λ cs follows short.
    let at = c.loop-keys.at in
    let read : follower cs at ≡ None = sym (follows.each at c.loop-keys.invariant.low)
    ∙ ap (λ k. slice_index_or c.args.self.now.ends k None) (sym c.from.ensures)
    ∙ c.in_err-at.was in
    c.from_residual.ensures ∙ Walked-none cs c.args.key _ at _ (omega arith)
    (c.loop-keys.invariant.walked cs follows) short read

pub returns-then-at-key : goal.returns-then-at-key
returns-then-at-key c = λ cs follows short.
    let at = c.loop-keys.at in
    let room : length c.loop-keys.keys.items < 16 = grind (arith, common_steps) in
    let read : follower cs at ≡ Some c.args.key = sym (follows.each at c.loop-keys.invariant.low)
    ∙ ap (λ k. slice_index_or c.args.self.now.ends k None) (sym c.from.ensures) ∙ c.in_ok-at.was
    ∙ ap Some c.if-at-key.true in
    Walked-turn cs c.args.key _ at (16 - length c.loop-keys.keys.items) c.push.new.self
    (omega arith) (omega arith) (c.loop-keys.invariant.walked cs follows)
    read c.push.ensures.items

pub returns-then-at-key-2 : goal.returns-then-at-key-2
returns-then-at-key-2 c = λ cs follows short.
    let at = c.loop-keys.at in
    let room : length c.loop-keys.keys.items < 16 = grind (arith, common_steps) in
    let read : follower cs at ≡ Some c.in_ok-at.at = sym (follows.each at c.loop-keys.invariant.low)
    ∙ ap (λ k. slice_index_or c.args.self.now.ends k None) (sym c.from.ensures)
    ∙ c.in_ok-at.was in
    Walked-below cs c.args.key _ at (16 - length c.loop-keys.keys.items) c.in_ok-at.at (omega arith)
    (omega arith) (c.loop-keys.invariant.walked cs follows) read c.if-at-key-2.true

pub loop-keys-preserved : goal.loop-keys-preserved
loop-keys-preserved c =
    let at = c.loop-keys.at in
    let keys = c.loop-keys.keys.items in
    let room : length keys < 16 = grind (arith, common_steps) in
    let fewer : 16 - length keys ≡ suc (16 - length c.push.new.self.items) =
    omega (arith, c.push.ensures.len) in
    record {
      low = c.args.self.now.within c.from.result c.in_ok-at.at c.in_ok-at.was;
      walked = λ cs follows.
          let read : follower cs at ≡ Some c.in_ok-at.at =
          sym (follows.each at c.loop-keys.invariant.low)
          ∙ ap (λ k. slice_index_or c.args.self.now.ends k None) (sym c.from.ensures)
          ∙ c.in_ok-at.was in
          let on = Walked-on cs c.args.key keys at (16 - length c.push.new.self.items) c.in_ok-at.at
          (subst (Walked cs c.args.key keys at) fewer (c.loop-keys.invariant.walked cs follows))
          (omega arith) read c.if-at-key.false c.if-at-key-2.false in
          subst (λ ks. Walked cs c.args.key ks c.in_ok-at.at (16 - length c.push.new.self.items))
          (sym c.push.ensures.items) on;
    }
