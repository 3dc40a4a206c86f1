-- The items of a list after a write to a part of it, as the language tells it (`put_mid`).
--
-- For `revise_row`, and for the copies of runs in `bricks`. An item of the part is one of what was written
-- (`get_or-put_mid`), and all others stay (`get_or-put_mid_off`); then what a part of a list has, and that an index in
-- a page grows along a row as the point does (`index_in_page-moved`).
use Rattle.std.proofs.Common.{◌≡◌, ℕ, ◌+◌, ◌-◌, ◌%◌, ◌<◌, ◌≤◌, List, ◌++◌, length, get_or, take, drop, ap, ◌∙◌, inl, inr, arith}
use Rattle.std.proofs.lemmas.Bool.{cases_lt}
use Rattle.std.proofs.lemmas.List.{get_or_append_left, get_or-append_right, get_or-take, get_or-drop, length-take-le, length-take, length-drop}
use borrow.Rule.Slice.PartMut.{put_mid, post_of}
use Rattle.lattice.specs.declared.point.Point.{Point}
use Rattle.lattice.specs.declared.point.Axis.TheVariants.{X}
use Rattle.lattice.specs.Point.{moved}
use Rattle.field_pages.specs.declared.page.TheConstants.{SIDE}
use Rattle.field_pages.specs.Places.{index_in_page}

-- the items of the part
pub get_or-put_mid : {A : Type 0} (a k t : ℕ) (xs ys : List A) (d : A) → length ys ≡ k
    → a + k ≤ length xs → t < k → get_or (put_mid a k xs ys) (a + t) d ≡ get_or ys t d
get_or-put_mid a k t xs ys d long fits t_in =
    let front : length (take a xs) ≡ a = length-take-le a xs (omega arith) in
    let far : (a + t) - a ≡ t = omega arith in
    let within : t < length ys = omega arith in
    get_or-append_right (take a xs) (ys ++ post_of a k xs) a (a + t) d front (omega arith)
    ∙ ap (λ n. get_or (ys ++ post_of a k xs) n d) far
    ∙ get_or_append_left ys (post_of a k xs) d t within

-- and those off it
pub get_or-put_mid_off : {A : Type 0} (a k j : ℕ) (xs ys : List A) (d : A) → length ys ≡ k
    → a + k ≤ length xs → (a ≤ j → j < a + k → ⊥) → get_or (put_mid a k xs ys) j d ≡ get_or xs j d
get_or-put_mid_off a k j xs ys d long fits off =
    let front : length (take a xs) ≡ a = length-take-le a xs (omega arith) in
    elim (cases_lt j a) [
      | inl before ↦
          let within : j < length (take a xs) = omega arith in
          get_or_append_left (take a xs) (ys ++ post_of a k xs) d j within
          ∙ get_or-take a xs j d before
      | inr not_before ↦
          elim (cases_lt j (a + k)) [
            | inl inside ↦ absurd (off (omega arith) inside)
            | inr past ↦
                let far : a + (k + ((j - a) - k)) ≡ j = omega arith in
                get_or-append_right (take a xs) (ys ++ post_of a k xs) a j d front (omega arith)
                ∙ get_or-append_right ys (post_of a k xs) k (j - a) d long (omega arith)
                ∙ get_or-drop k (drop a xs) ((j - a) - k) d
                ∙ get_or-drop a xs (k + ((j - a) - k)) d
                ∙ ap (λ n. get_or xs n d) far
          ]
    ]

-- the part itself
pub get_or-part : {A : Type 0} (a k n t : ℕ) (xs : List A) (d : A) → t < k → n ≡ k
    → get_or (take n (drop a xs)) t d ≡ get_or xs (a + t) d
get_or-part a k n t xs d t_in same =
    let within : t < n = omega arith in
    get_or-take n (drop a xs) t d within ∙ get_or-drop a xs t d

-- a point further along its row has an index as much larger in its page
pub index_in_page-moved : (p : Point) (t : ℕ) → p.x % SIDE + t < SIDE
    → index_in_page (moved X t p) ≡ index_in_page p + t
index_in_page-moved p t fits = omega arith

-- it is as long as it has to be
pub length-part : {A : Type 0} (a k n : ℕ) (xs : List A) → n ≡ k → a + k ≤ length xs
    → length (take n (drop a xs)) ≡ k
length-part a k n xs same fits = omega (arith, length-take n (drop a xs), length-drop a xs)
