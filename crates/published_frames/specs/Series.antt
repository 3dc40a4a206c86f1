-- Which publisher's frames somebody sees.
-- Source: this project's rule.
use Rattle.std.specs.Prelude.{Option}
use Rattle.published_frames.specs.declared.shown.Shown.{Shown}

-- the series of the frames that one publisher shows, told by the pointer that it showed first; none before that
abbrev pub Series : Type 0
Series = Option Shown
