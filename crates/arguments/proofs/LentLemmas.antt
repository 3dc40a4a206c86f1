-- Texts that are lent, one argument after another.
use Rattle.std.proofs.Common.{◌≡◌, ℕ, ◌+◌, ◌<◌, List, [], ◌∷◌, ◌++◌, length, get_or, take, sym, ap, ◌∙◌}
use Rattle.std.specs.Prelude.{String, string_bytes}
use Rattle.std.specs.Borrow.{Bor}
use Rattle.std.proofs.lemmas.List.{map-append, take_more}
use Rattle.arguments.specs.Request.{texts, texts_of_strings}

-- one argument more
pub lent-more : {Z : Type 0} (lent : List (Bor (List ℕ))) (one : Bor (List ℕ))
    (arguments : List (String Z)) (i : ℕ) (d : String Z) → i < length arguments
    → texts lent ≡ texts_of_strings (take i arguments)
    → one.now ≡ string_bytes (get_or arguments i d)
    → texts (lent ++ one ∷ []) ≡ texts_of_strings (take (i + 1) arguments)
lent-more {Z = Z} lent one arguments i d inside so_far is =
    map-append (λ (argument : Bor (List ℕ)). argument.now) lent (one ∷ [])
    ∙ (λ j. so_far j ++ is j ∷ [])
    ∙ sym (map-append (string_bytes {Z = Z}) (take i arguments) (get_or arguments i d ∷ []))
    ∙ ap (texts_of_strings {Z = Z}) (sym (take_more arguments i d inside))
