-- `listen` meets its contract.
use Rattle.listening.specs.FrameDamages.{put-start}
use Rattle.listening.specs.Frames.{none-behind, hears}
use mathlib.Core.Path.{sym, ◌∙◌}
use Rattle.listening.proofs.listen.Goals as goal

pub returns : goal.returns
returns c =
    let pre = c.requires in
    hears _ _ (put-start pre.left) (none-behind pre (sym c.is_damaged.ensures ∙ c.if-is_damaged.false)) c.hear.ensures
