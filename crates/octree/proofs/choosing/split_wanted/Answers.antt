-- A camera more wants its own nodes beside those of the others.
use Rattle.std.proofs.Common.{◌≡◌, ◌+◌, ◌++◌, [], ◌∷◌, get_or, take, subst, arith}
use Rattle.std.proofs.lemmas.List.{take_all, take_more}
use Rattle.octree.specs.Growing.{Gains}
use Rattle.octree.specs.WantedNodes.{IsWantedOf}
use Rattle.octree.proofs.GrownLemmas.{gains_more, gains_none}
use Rattle.octree.proofs.choosing.split_wanted.Goals as goal

pub loop-camera-init : goal.loop-camera-init
loop-camera-init c = gains_none c.args.settings.now c.args.level c.args.levels.now

pub loop-camera-preserved : goal.loop-camera-preserved
loop-camera-preserved c =
    let cameras = c.args.cameras.now in
    let i = c.loop-camera.camera-index in
    let camera = get_or cameras i (record { z = 0; y = 0; x = 0 }) in
    let more : take (i + 1) cameras ≡ take i cameras ++ camera ∷ [] =
    take_more cameras i (record { z = 0; y = 0; x = 0 }) (omega arith) in
    gains_more c.args.settings.now c.args.level (take i cameras) camera (take (i + 1) cameras)
    c.args.levels.now c.loop-camera.levels c.split_near.new.levels more c.loop-camera.invariant
    c.split_near.ensures

pub returns : goal.returns
returns c =
    let cameras = c.args.cameras.now in
    let all : take c.loop-camera.camera-index cameras ≡ cameras =
    take_all c.loop-camera.camera-index cameras (omega arith) in
    subst (λ ps. Gains (IsWantedOf c.args.settings.now c.args.level ps)
    c.args.levels.now c.loop-camera.levels) all c.loop-camera.invariant
