-- The weights that are made of three turns, for `weights_at`: where all turns are to the left (`weights-left`), and
-- where all are to the right (`weights-right`). Where the place is a mean all are to one side (`all_turns`). The
-- arithmetic is that of `TurnLemmas`.
use Rattle.std.proofs.Common.{◌≡◌, ℕ, ◌+◌, ◌-◌, ◌≤◌, ◌⊎◌, inl, inr, sym, ap, arith}
use Rattle.std.proofs.lemmas.Bool.{cases_lt}
use Rattle.lattice.specs.declared.point.Pos.{Pos}
use Rattle.frame_surface.proofs.TurnLemmas as turns
use Rattle.frame_surface.specs.Turns.{AreMean, AreWeights, left_of, right_of, turn_of}
use Rattle.frame_surface.specs.declared.spot.Spot.{Spot}
use Rattle.frame_surface.specs.declared.turns.Turn.{Turn}

-- a difference as a sum
sum_of : (l r x y : ℕ) → x ≡ l → y ≡ r → y ≤ x → l ≡ r + (x - y)
sum_of l r x y hx hy order = omega (arith, hx, hy, order)

-- an order of two numbers that are others
to_side : (x y k l : ℕ) → x ≡ k → y ≡ l → k ≤ l → x ≤ y
to_side x y k l hx hy order = omega (arith, hx, hy, order)

module _ (p q r : Pos) (at : Spot) where
  -- the parts of the three turns
  abbrev lp : ℕ
  lp = left_of q r at

  -- and to the right
  abbrev rp : ℕ
  rp = right_of q r at

  -- the turn from r to p
  abbrev lq : ℕ
  lq = left_of r p at

  -- to the right
  abbrev rq : ℕ
  rq = right_of r p at

  -- the turn from p to q
  abbrev lr : ℕ
  lr = left_of p q at

  -- to the right
  abbrev rr : ℕ
  rr = right_of p q at

  module _ (u v w : ℕ) where
    -- weights by turns to the left
    weights-by_left : lp ≡ rp + u → lq ≡ rq + v → lr ≡ rr + w
        → AreWeights p q r at (record { p = u; q = v; r = w })
    weights-by_left hp hq hr =
        let all : lp + lq + lr ≡ rp + rq + rr + (u + v + w) = omega (arith, hp, hq, hr) in
        record {
          mean = record {
            x =
                turns.mean p.x q.x r.x at.x lp lq lr rp rq rr u v w hp hq hr
                (turns.mean-x p.x p.y q.x q.y r.x r.y at.x at.y);
            y =
                turns.mean p.y q.y r.y at.y lp lq lr rp rq rr u v w hp hq hr
                (turns.mean-y p.x p.y q.x q.y r.x r.y at.x at.y);
          };
          p_ratio = λ a b c h.
              turns.ratio a (a + b + c) lp rp u (lp + lq + lr) (rp + rq + rr) (u + v + w) hp all
              (turns.share-p p.x p.y q.x q.y r.x r.y at.x at.y a b c h.x h.y);
          q_ratio = λ a b c h.
              turns.ratio b (a + b + c) lq rq v (lp + lq + lr) (rp + rq + rr) (u + v + w) hq all
              (turns.share-q p.x p.y q.x q.y r.x r.y at.x at.y a b c h.x h.y);
          r_ratio = λ a b c h.
              turns.ratio c (a + b + c) lr rr w (lp + lq + lr) (rp + rq + rr) (u + v + w) hr all
              (turns.share-r p.x p.y q.x q.y r.x r.y at.x at.y a b c h.x h.y);
          flat = λ none. record {
            qr = omega (arith, hp, none);
            rp = omega (arith, hq, none);
            pq = omega (arith, hr, none);
          };
        }

    -- weights by turns to the right
    weights-by_right : rp ≡ lp + u → rq ≡ lq + v → rr ≡ lr + w
        → AreWeights p q r at (record { p = u; q = v; r = w })
    weights-by_right hp hq hr =
        let all : rp + rq + rr ≡ lp + lq + lr + (u + v + w) = omega (arith, hp, hq, hr) in
        let on_x = turns.mean-x p.x p.y q.x q.y r.x r.y at.x at.y in
        let on_y = turns.mean-y p.x p.y q.x q.y r.x r.y at.x at.y in
        record {
          mean = record {
            x = turns.mean p.x q.x r.x at.x rp rq rr lp lq lr u v w hp hq hr (sym on_x);
            y = turns.mean p.y q.y r.y at.y rp rq rr lp lq lr u v w hp hq hr (sym on_y);
          };
          p_ratio = λ a b c h.
              turns.ratio-back a (a + b + c) lp rp u (lp + lq + lr) (rp + rq + rr) (u + v + w) hp
              all (turns.share-p p.x p.y q.x q.y r.x r.y at.x at.y a b c h.x h.y);
          q_ratio = λ a b c h.
              turns.ratio-back b (a + b + c) lq rq v (lp + lq + lr) (rp + rq + rr) (u + v + w) hq
              all (turns.share-q p.x p.y q.x q.y r.x r.y at.x at.y a b c h.x h.y);
          r_ratio = λ a b c h.
              turns.ratio-back c (a + b + c) lr rr w (lp + lq + lr) (rp + rq + rr) (u + v + w) hr
              all (turns.share-r p.x p.y q.x q.y r.x r.y at.x at.y a b c h.x h.y);
          flat = λ none. record {
            qr = omega (arith, hp, none);
            rp = omega (arith, hq, none);
            pq = omega (arith, hr, none);
          };
        }

  module _ (a b c : Turn) (is_a : a ≡ turn_of q r at) (is_b : b ≡ turn_of r p at)
      (is_c : c ≡ turn_of p q at) where
    -- the parts of the code's turns
    left-a : a.left ≡ lp
    left-a = ap (λ (t : Turn). t.left) is_a

    -- its right part
    right-a : a.right ≡ rp
    right-a = ap (λ (t : Turn). t.right) is_a

    -- the parts of the second
    left-b : b.left ≡ lq
    left-b = ap (λ (t : Turn). t.left) is_b

    -- its right part
    right-b : b.right ≡ rq
    right-b = ap (λ (t : Turn). t.right) is_b

    -- the parts of the third
    left-c : c.left ≡ lr
    left-c = ap (λ (t : Turn). t.left) is_c

    -- its right part
    right-c : c.right ≡ rr
    right-c = ap (λ (t : Turn). t.right) is_c

    -- all to the left
    pub weights-left : a.right ≤ a.left → b.right ≤ b.left → c.right ≤ c.left
        → AreWeights p q r at (record {
          p = a.left - a.right;
          q = b.left - b.right;
          r = c.left - c.right;
        })
    weights-left ha hb hc =
        weights-by_left (a.left - a.right) (b.left - b.right) (c.left - c.right)
        (sum_of lp rp a.left a.right left-a right-a ha)
        (sum_of lq rq b.left b.right left-b right-b hb)
        (sum_of lr rr c.left c.right left-c right-c hc)

    -- all to the right
    pub weights-right : a.left ≤ a.right → b.left ≤ b.right → c.left ≤ c.right
        → AreWeights p q r at (record {
          p = a.right - a.left;
          q = b.right - b.left;
          r = c.right - c.left;
        })
    weights-right ha hb hc =
        weights-by_right (a.right - a.left) (b.right - b.left) (c.right - c.left)
        (sum_of rp lp a.right a.left right-a left-a ha)
        (sum_of rq lq b.right b.left right-b left-b hb)
        (sum_of rr lr c.right c.left right-c left-c hc)

    -- which side all turns are to, where the place is a mean of the corners
    pub all_turns : (k l m : ℕ) → 1 ≤ k + l + m → AreMean p q r at k l m
        → ((a.right ≤ a.left) × (b.right ≤ b.left) × (c.right ≤ c.left))
        ⊎ ((a.left ≤ a.right) × (b.left ≤ b.right) × (c.left ≤ c.right))
    all_turns k l m some h =
        let e = k + l + m in
        let sp = turns.share-p p.x p.y q.x q.y r.x r.y at.x at.y k l m h.x h.y in
        let sq = turns.share-q p.x p.y q.x q.y r.x r.y at.x at.y k l m h.x h.y in
        let sr = turns.share-r p.x p.y q.x q.y r.x r.y at.x at.y k l m h.x h.y in
        let L = lp + lq + lr in
        let R = rp + rq + rr in
        elim (cases_lt L R) [
          | inl less ↦
              inr (
                to_side a.left a.right lp rp left-a right-a
                    (turns.to_left k e rp lp R L some (omega (arith, less)) (sym sp)),
                to_side b.left b.right lq rq left-b right-b
                    (turns.to_left l e rq lq R L some (omega (arith, less)) (sym sq)),
                to_side c.left c.right lr rr left-c right-c
                    (turns.to_left m e rr lr R L some (omega (arith, less)) (sym sr)),
              )
          | inr more ↦
              inl (
                to_side a.right a.left rp lp right-a left-a
                    (turns.to_left k e lp rp L R some more sp),
                to_side b.right b.left rq lq right-b left-b
                    (turns.to_left l e lq rq L R some more sq),
                to_side c.right c.left rr lr right-c left-c
                    (turns.to_left m e lr rr L R some more sr),
              )
        ]
