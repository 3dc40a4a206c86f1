-- The chain is followed patch by patch, and a replica shows what comes of it.
use Rattle.std.proofs.Common.{ap, ◌∙◌}
use Rattle.patch_wire.specs.Chain.{chain_bytes}
use Rattle.replicas.specs.Fed.{block_in, events_left, settings_left}
use Rattle.patch_wire.proofs.ChainLemmas.{wire-reaches}
use Rattle.patch_wire.proofs.chain.wires_lead_to_last_frames.Goals as goal

pub returns-clause-wires : goal.returns-clause-wires
returns-clause-wires c =
    wire-reaches c.triangles_are_few.ensures.leaf
    c.leaves_keep_their_bricks_until_touched.ensures.leaf
    c.leaves_keep_their_bricks_until_touched.ensures.brick
    c.levels_follow_the_viewpoints.ensures.none c.levels_follow_the_viewpoints.ensures.root

pub returns-clause-replicas : goal.returns-clause-replicas
returns-clause-replicas c opening patches replica is chain undoes fed fine =
    let reached = wire-reaches c.triangles_are_few.ensures.leaf
    c.leaves_keep_their_bricks_until_touched.ensures.leaf
    c.leaves_keep_their_bricks_until_touched.ensures.brick
    c.levels_follow_the_viewpoints.ensures.none c.levels_follow_the_viewpoints.ensures.root
    opening patches is chain undoes in
    let shows = c.replicas_show_what_comes_of_their_bytes.ensures.shown
    (chain_bytes opening.settings patches) replica fed fine in
    record {
      settings = shows.settings ∙ ap settings_left reached.world;
      events = shows.events ∙ ap events_left reached.world;
      block = λ n. shows.block n ∙ ap (λ w. block_in w n) reached.world;
      at_rest = shows.at_rest ∙ reached.at_rest;
      fault = shows.fault ∙ reached.fault;
    }
