-- The arguments so far.
use Rattle.std.proofs.Common.{◌≡◌, take}
use Rattle.arguments.specs.Request.{texts, texts_of_strings}
use Rattle.arguments.proofs.lent.lent_texts.Given as goal

abbrev pub invariant-loop-argument : goal.invariant-loop-argument
invariant-loop-argument l =
    texts l.lent.items ≡ texts_of_strings (take l.argument-index l.arguments)
