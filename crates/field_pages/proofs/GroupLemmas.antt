-- The pages of a layer that stand in groups.
--
-- They are as many as is said (length-ungrouped), each in a group that is there (group-within), and the page of a
-- number is that of its group (get_or-ungrouped). So to put a page into its place in its group is to put it into its
-- place (ungrouped-set): the page of any other number is in another group, or in another place of the same.
use Rattle.std.proofs.Common.{◌≡◌, ◌≢◌, ℕ, ◌/◌, ◌%◌, ◌<◌, ◌≤◌, ◌*◌, List, [], ℤ, get_or, length, set, sym, ap, subst, ◌∙◌, inl, inr, arith}
use Rattle.std.proofs.lemmas.Bool.{cases_eq}
use Rattle.std.proofs.lemmas.List.{get_or-set_other, get_or-set_same, length-set}
use Rattle.std.proofs.lemmas.List.FromFn.{fill_by_all, get_or-map-range_with_len, length-map-range_with_len}
use Rattle.field_pages.specs.declared.shared_pages.TheConstants.{GROUP}
use Rattle.field_pages.specs.Groups.{grouped_at, ungrouped}

-- they are as many as is said
pub length-ungrouped : (count : ℕ) (groups : List (List (List ℤ)))
    → length (ungrouped count groups) ≡ count
unfolding ungrouped
length-ungrouped count groups = length-map-range_with_len (grouped_at groups) 0 count

-- the page of a number is that of its group
pub get_or-ungrouped : (count : ℕ) (groups : List (List (List ℤ))) (n : ℕ) (d : List ℤ)
    → n < count → get_or (ungrouped count groups) n d ≡ grouped_at groups n
unfolding ungrouped
get_or-ungrouped count groups n d n_in =
    get_or-map-range_with_len (grouped_at groups) 0 count n n d n_in (omega arith)

-- a page's group is there, where there are groups for all pages
pub group-within : (count n held : ℕ) (groups : List (List (List ℤ))) (pages : List (List ℤ))
    → n < length pages → ungrouped count groups ≡ pages → count ≤ GROUP * held
    → (n < count) × (n / GROUP < held)
group-within count n held groups pages n_in same room =
    let n_few : n < count = omega (arith, n_in, ap length same, length-ungrouped count groups) in
    (n_few, omega (arith, n_few, room))

-- another page in its place in its group is another page in its place
pub ungrouped-set : (count : ℕ) (groups : List (List (List ℤ))) (n : ℕ) (group : List (List ℤ))
    (page : List ℤ) → n < count → n / GROUP < length groups → length group ≡ GROUP
    → group ≡ get_or groups (n / GROUP) []
    → ungrouped count (set groups (n / GROUP) (set group (n % GROUP) page))
    ≡ set (ungrouped count groups) n page
unfolding ungrouped
ungrouped-set count groups n group page n_in at_in long same =
    let new = set groups (n / GROUP) (set group (n % GROUP) page) in
    let here : get_or new (n / GROUP) [] ≡ set group (n % GROUP) page =
    get_or-set_same groups (n / GROUP) (set group (n % GROUP) page) [] at_in in
    let each : (k : ℕ) → k < count
    → get_or (set (ungrouped count groups) n page) k [] ≡ grouped_at new k = λ k k_in.
    elim (cases_eq k n) [
      | inl is ↦
          let all_in : n < length (ungrouped count groups) =
          omega (arith, n_in, length-ungrouped count groups) in
          let place_in : n % GROUP < length group = omega (arith, long) in
          subst (λ m. get_or (set (ungrouped count groups) n page) m [] ≡ grouped_at new m) (sym is)
          (get_or-set_same (ungrouped count groups) n page [] all_in
          ∙ sym (ap (λ l. get_or l (n % GROUP) []) here
          ∙ get_or-set_same group (n % GROUP) page [] place_in))
      | inr other ↦
          get_or-set_other (ungrouped count groups) n k page [] other
          ∙ get_or-ungrouped count groups k [] k_in
          ∙ sym (elim (cases_eq (k / GROUP) (n / GROUP)) [
            | inl group_is ↦
                let place : k % GROUP ≢ n % GROUP = omega (arith, other, group_is) in
                ap (λ m. get_or (get_or new m []) (k % GROUP) []) group_is
                ∙ ap (λ l. get_or l (k % GROUP) []) here
                ∙ get_or-set_other group (n % GROUP) (k % GROUP) page [] place
                ∙ ap (λ l. get_or l (k % GROUP) []) same
                ∙ sym (ap (λ m. get_or (get_or groups m []) (k % GROUP) []) group_is)
            | inr apart ↦
                ap (λ l. get_or l (k % GROUP) [])
                (get_or-set_other groups (n / GROUP) (k / GROUP)
                (set group (n % GROUP) page) [] apart)
          ])
    ] in
    sym (fill_by_all (grouped_at new) (set (ungrouped count groups) n page) count []
    (length-set (ungrouped count groups) n page ∙ length-ungrouped count groups) each)
