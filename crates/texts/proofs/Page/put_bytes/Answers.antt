-- `put_bytes` meets its contract: as much of the text as there is room for is behind the others.
use Rattle.std.proofs.Common.{arith, min, sym, ◌≡◌, ◌+◌, ◌-◌, ◌∙◌, ap, ℕ, List, take, length, ◌++◌}
use Rattle.std.proofs.lemmas.Slice.{take-put_mid}
use Rattle.std.proofs.lemmas.List.{length-take-le}
use Rattle.texts.proofs.Pages.{put-behind}
use Rattle.texts.proofs.Page.put_bytes.Goals as goal

pub returns : goal.returns
returns c =
    let text : List ℕ = c.args.text.now in
    let part : c.copy_from_slice.new.self ≡ take c.min-k.result text = c.copy_from_slice.ensures.after in
    let long : length (take c.min-k.result text) ≡ c.min-k.result = length-take-le c.min-k.result text (omega (arith, c.min-k.ensures)) in
    take-put_mid c.self.inside.filled _ c.self.inside.bytes c.copy_from_slice.new.self _ (omega (arith, long, ap length part)) (omega (arith, c.self.invariant))
    ∙ ap (λ (xs : List ℕ). take c.self.inside.filled c.self.inside.bytes ++ xs) part
    ∙ put-behind c.self.inside.bytes _ c.self.inside.filled c.self.view_is text c.min-k.result (omega (arith, c.self.invariant)) (c.min-k.ensures ∙ ap (λ (n : ℕ). min (n - c.self.inside.filled) (length text)) (sym c.self.told))
    ∙ ap (λ (n : ℕ). take n (c.args.self.now ++ text)) c.self.told
