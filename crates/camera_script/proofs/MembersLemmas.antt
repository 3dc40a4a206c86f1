-- The names of an object's members, as the code walks them.
use Rattle.std.proofs.Common.{◌≡◌, ℕ, Bool, ◌&&◌, ◌||◌, List, [], ◌∷◌, map, refl, ap}
use Rattle.std.specs.Prelude.{Option, Some, None, option_map, is_some, string_bytes}
use Rattle.std.specs.List.{list_all, list_any}
use Rattle.serde_json.specs.View.{members_view}
use Rattle.serde_json.proofs.Views.{Entry}
use Rattle.camera_script.specs.Members.{names_of}

-- what is shown of a value that is there is there
pub is_some-option_map : {A B : Type 0} (f : A → B) (o : Option A)
    → is_some o ≡ is_some (option_map f o)
is_some-option_map f None = refl
is_some-option_map f (Some x) = refl

-- a test of what is shown of each item
pub list_all-shown : {A B : Type 0} (p : B → Bool) (f : A → B) (xs : List A)
    → list_all (λ x. p (f x)) xs ≡ list_all p (map f xs)
list_all-shown p f [] = refl
list_all-shown p f (x ∷ xs) = ap (λ rest. p (f x) && rest) (list_all-shown p f xs)

-- the same where one item will do
pub list_any-shown : {A B : Type 0} (p : B → Bool) (f : A → B) (xs : List A)
    → list_any (λ x. p (f x)) xs ≡ list_any p (map f xs)
list_any-shown p f [] = refl
list_any-shown p f (x ∷ xs) = ap (λ rest. p (f x) || rest) (list_any-shown p f xs)

-- the names are the keys' texts
pub list_all-names : (p : List ℕ → Bool) (entries : List Entry)
    → list_all (λ key. p (string_bytes key)) (map (λ e. e.0) entries) ≡ list_all p
    (names_of (members_view entries))
list_all-names p [] = refl
list_all-names p (e ∷ entries) =
    ap (λ rest. p (string_bytes e.0) && rest) (list_all-names p entries)
