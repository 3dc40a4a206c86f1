-- What two nodes' closed cubes have in common, where a part of a face and a part of an edge are told by one relation,
-- so that balance across edges and across faces alone is proved once.
-- A Kind says on how many axes there has to be a length: on one for a segment, on two for a face. Share is that the
-- cubes touch on all axes and have such a length. It goes both ways (turned), up to a parent (with_parent), and down to
-- some child (child_towards: on each axis the half that is towards the other node). At the end the same for segments
-- and faces by their own names.
--
-- Offered to the proofs of the crates above, which import them: `ShareSegment-turned`, `ShareSegment-parent`,
-- `ShareFace-turned` and `ShareFace-parent`.
use Rattle.std.proofs.Common.{◌≡◌, ℕ, ◌+◌, ◌-◌, ◌*◌, ◌<◌, ◌≤◌, ◌⊎◌, inl, inr, sym, ap, ◌∙◌, arith}
use Rattle.lattice.specs.declared.node.Node.{Node}
use Rattle.lattice.specs.Node.{node_side, low_corner, high_corner, IsNode, parent}
use Rattle.lattice.proofs.FamilyLemmas.{Holds-parent}
use Rattle.terrain.specs.Levels.{Touch, ShareSegment}
use Rattle.level_laws.specs.Balance.{OverlapZ, OverlapY, OverlapX, ShareFace}
use Rattle.level_laws.proofs.NodeLemmas.{IsChild, IsChild-at, child}
use Rattle.level_laws.proofs.RangeLemmas.{side_more, side_some, range_some, half}

-- ---- segments and faces

-- what two cubes that touch have in common, by the axes on which it has a length; where something follows from a
-- length on each axis, the same follows of what is in common
pub record Kind : Type 1 where
  pub Long : Type 0 → Type 0 → Type 0 → Type 0
  pub carry : {z y x z' y' x' : Type 0} → (z → z') → (y → y') → (x → x') → Long z y x
      → Long z' y' x'

-- a segment has a length on one axis
abbrev pub segment : Kind
segment = record {
  Long = λ z y x. z ⊎ (y ⊎ x);
  carry = λ f g h o. elim o [
    | inl z ↦ inl (f z)
    | inr o ↦ elim o [ inl y ↦ inr (inl (g y)) | inr x ↦ inr (inr (h x)) ]
  ];
}

-- part of a face has a length on two
abbrev pub face : Kind
face = record {
  Long = λ z y x. (z × y) ⊎ ((z × x) ⊎ (y × x));
  carry = λ f g h o. elim o [
    | inl zy ↦ inl (f zy.0, g zy.1)
    | inr o ↦ elim o [
      | inl zx ↦ inr (inl (f zx.0, h zx.1))
      | inr yx ↦ inr (inr (g yx.0, h yx.1))
    ]
  ];
}

-- ---- what is shared

-- two nodes' closed cubes have a part of some kind in common
pub record Share (kind : Kind) (a b : Node) : Type 0 where
  pub z : Touch (low_corner a).z (high_corner a).z (low_corner b).z (high_corner b).z
  pub y : Touch (low_corner a).y (high_corner a).y (low_corner b).y (high_corner b).y
  pub x : Touch (low_corner a).x (high_corner a).x (low_corner b).x (high_corner b).x
  pub long : kind.Long (OverlapZ a b) (OverlapY a b) (OverlapX a b)

-- nodes that share a segment do
pub of_segment : (a b : Node) → ShareSegment a b → Share segment a b
of_segment a b h = record { z = h.z; y = h.y; x = h.x; long = h.length }

-- and the other way
pub to_segment : (a b : Node) → Share segment a b → ShareSegment a b
to_segment a b h = record { z = h.z; y = h.y; x = h.x; length = h.long }

-- nodes that share part of a face do
pub of_face : (a b : Node) → ShareFace a b → Share face a b
of_face a b h = record { z = h.z; y = h.y; x = h.x; long = h.area }

-- and the other way
pub to_face : (a b : Node) → Share face a b → ShareFace a b
to_face a b h = record { z = h.z; y = h.y; x = h.x; area = h.long }

module _ (kind : Kind) where
  -- sharing goes both ways
  pub turned : (a b : Node) → Share kind a b → Share kind b a
  turned a b h = record {
    z = (h.z.1, h.z.0);
    y = (h.y.1, h.y.0);
    x = (h.x.1, h.x.0);
    long = kind.carry (λ o. (o.1, o.0)) (λ o. (o.1, o.0)) (λ o. (o.1, o.0)) h.long;
  }

  -- what shares with a node does so with the node above it
  pub with_parent : (a b : Node) → Share kind a b → Share kind a (parent b)
  with_parent a b h =
      let up = Holds-parent b in
      record {
        z = (omega (arith, h.z, up.z_high), omega (arith, h.z, up.z_low));
        y = (omega (arith, h.y, up.y_high), omega (arith, h.y, up.y_low));
        x = (omega (arith, h.x, up.x_high), omega (arith, h.x, up.x_low));
        long = kind.carry
            (λ o. (omega (arith, o, up.z_high), omega (arith, o, up.z_low)))
            (λ o. (omega (arith, o, up.y_high), omega (arith, o, up.y_low)))
            (λ o. (omega (arith, o, up.x_high), omega (arith, o, up.x_low)))
            h.long;
      }

  -- a child that shares with another node what its parent does
  pub record ChildTowards (depth : ℕ) (b n : Node) : Type 0 where
    pub child : Node
    pub is : IsChild depth n child
    pub level : child.level + 1 ≡ n.level
    pub shares : Share kind b child

  -- a node has such a child
  pub child_towards : (depth : ℕ) (b n : Node) → IsNode depth n → 1 ≤ n.level → Share kind b n
      → ChildTowards depth b n
  child_towards depth b n n_in some h =
      let s = node_side (n.level - 1) in
      let S = node_side n.level in
      let t = node_side b.level in
      let up : n.level - 1 + 1 ≡ n.level = omega arith in
      let twice : S ≡ 2 * s = ap node_side (sym up) ∙ side_more (n.level - 1) in
      let s_some = side_some (n.level - 1) in
      let long : (index : ℕ) → index * t < (index + 1) * t =
      λ index. range_some index t (side_some b.level) in
      let z = half n.k s S (b.k * t) ((b.k + 1) * t) twice s_some (long b.k) h.z in
      let y = half n.j s S (b.j * t) ((b.j + 1) * t) twice s_some (long b.j) h.y in
      let x = half n.i s S (b.i * t) ((b.i + 1) * t) twice s_some (long b.i) h.x in
      record {
        child = child n z.side y.side x.side;
        is = IsChild-at depth n z.side y.side x.side n_in some z.low y.low x.low;
        level = up;
        shares = record {
          z = z.touch;
          y = y.touch;
          x = x.touch;
          long = kind.carry z.overlap y.overlap x.overlap h.long;
        };
      }

-- ---- segments and faces again

-- sharing a segment goes both ways
pub ShareSegment-turned : (a b : Node) → ShareSegment a b → ShareSegment b a
ShareSegment-turned a b h = to_segment b a (turned segment a b (of_segment a b h))

-- what shares a segment with a node does so with the node above it
pub ShareSegment-parent : (a b : Node) → ShareSegment a b → ShareSegment a (parent b)
ShareSegment-parent a b h =
    to_segment a (parent b) (with_parent segment a b (of_segment a b h))

-- a common face is one from either side
pub ShareFace-turned : (a b : Node) → ShareFace a b → ShareFace b a
ShareFace-turned a b h = to_face b a (turned face a b (of_face a b h))

-- what shares a face with a node does so with the node above it
pub ShareFace-parent : (a b : Node) → ShareFace a b → ShareFace a (parent b)
ShareFace-parent a b h = to_face a (parent b) (with_parent face a b (of_face a b h))
