-- The level map with one split corner is balanced: an octree whose leaves are of the levels 0 and 1 alone, so that no
-- two differ by more than one.
use Rattle.std.proofs.Common.{◌≡◌, ◌-◌, ◌≤◌, Bool, true, false, ◌⊎◌, inl, inr, refl, ap, sym, ◌∙◌, arith}
use Rattle.std.specs.Prelude.{◌&&◌, ◌||◌, ◌==◌}
use Rattle.std.proofs.lemmas.Nat.{pow_pos}
use Rattle.std.proofs.lemmas.Bool.{and_parts, and_from, cases_lt, or_cases, eqb-true, eq-eqb, false≢true}
use Rattle.lattice.specs.declared.node.Node.{Node}
use Rattle.lattice.specs.Node.{nodes_across, parent}
use Rattle.terrain.specs.Levels.{IsLeaf, IsOctree, IsBalanced}
use Rattle.seam_laws.specs.Examples.{lattice_point, upright, split_corner, ground}
use Rattle.seam_laws.proofs.Balance.{face-balanced}
use Rattle.seam_laws.proofs.NoCrack.{no-crack-inside}
use Rattle.seam_laws.proofs.examples.one_split_corner.Goals as goal

-- what a split node is
record Corner (n : Node) : Type 0 where
  level : (n.level ≡ 2) ⊎ (n.level ≡ 1)
  k : n.k ≡ 0
  j : n.j ≡ 0
  i : n.i ≡ 0

-- what a node that passes the test is
corner : (n : Node) → split_corner n ≡ true → Corner n
corner n h =
    let levels : Bool = n.level == 2 || n.level == 1 in
    let a = and_parts (levels && n.k == 0 && n.j == 0) (n.i == 0) h in
    let b = and_parts (levels && n.k == 0) (n.j == 0) a.0 in
    let c = and_parts levels (n.k == 0) b.0 in
    record {
      level = elim (or_cases (n.level == 2) (n.level == 1) c.0)
          [ inl e ↦ inl (eqb-true n.level 2 e) | inr e ↦ inr (eqb-true n.level 1 e) ];
      k = eqb-true n.k 0 c.1;
      j = eqb-true n.j 0 b.1;
      i = eqb-true n.i 0 a.1;
    }

-- such a node passes
from_corner : (n : Node) → Corner n → split_corner n ≡ true
from_corner n h =
    let levels : (n.level == 2 || n.level == 1) ≡ true =
    elim h.level [
      | inl e ↦ rw (eq-eqb n.level 2 e) refl
      | inr e ↦ or-second (n.level == 2)
          (n.level == 1) (eq-eqb n.level 1 e)
    ] in
    and_from _ _ (and_from _ _ (and_from _ _ levels (eq-eqb n.k 0 h.k)) (eq-eqb n.j 0 h.j))
    (eq-eqb n.i 0 h.i)
  where
    or-second : (a b : Bool) → b ≡ true → (a || b) ≡ true
    or-second true b e = refl
    or-second false b e = e

-- the split nodes are the root and its child at the corner
octree : IsOctree 2 split_corner
octree = record {
  in_world = λ n h. (let at = corner n h in let some = pow_pos (2 - n.level) in
      record {
        level = elim at.level [ inl e ↦ omega arith | inr e ↦ omega arith ];
        k = omega arith;
        j = omega arith;
        i = omega arith;
      });
  level = λ n h. elim (corner n h).level [ inl e ↦ omega arith | inr e ↦ omega arith ];
  held = λ n h. (let at = corner n h in elim at.level [
    | inl top ↦ inl top
    | inr low ↦ inr (from_corner (parent n) (record {
      level = inl (omega arith);
      k = omega arith;
      j = omega arith;
      i = omega arith;
    }))
  ]);
}

-- the root is no leaf
low-leaf : (n : Node) → IsLeaf 2 split_corner n → n.level ≤ 1
low-leaf n leaf =
    elim (cases_lt 1 n.level) [
      | inl high ↦
          let top : n.level ≡ 2 = omega (arith, leaf.node.level) in
          let across : nodes_across 2 n.level ≡ 1 = ap (nodes_across 2) top in
          let is_split = from_corner n (record {
            level = inl top;
            k = omega (arith, leaf.node.k);
            j = omega (arith, leaf.node.j);
            i = omega (arith, leaf.node.i);
          }) in
          absurd (false≢true (sym leaf.whole ∙ is_split))
      | inr low ↦ low
    ]

-- all leaves are of level 0 or 1
balanced : IsBalanced 2 split_corner
balanced = record {
  octree = octree;
  close = λ a b a_leaf b_leaf h. omega (
    arith,
    low-leaf a a_leaf,
  );
}

pub returns : goal.returns
returns c = record {
  balanced = balanced;
  no_crack = no-crack-inside ground 2 split_corner (face-balanced 2 split_corner balanced)
      (upright 1 (lattice_point 32 32 8)) (upright 0 (lattice_point 32 32 8))
      (λ lie. false≢true lie);
}
