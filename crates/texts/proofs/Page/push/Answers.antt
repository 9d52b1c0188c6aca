-- `push` meets its contract: the byte is behind the others, unless there is no room.
use Rattle.std.proofs.Common.{arith, ◌∙◌, ap, ℕ, take, ◌++◌, ◌∷◌, []}
use Rattle.texts.proofs.Pages.{push-behind, full}
use Rattle.texts.proofs.Page.push.Goals as goal

pub returns-then-self-lt65536 : goal.returns-then-self-lt65536
returns-then-self-lt65536 c = push-behind _ _ c.self.inside.filled c.self.view_is c.args.byte (omega arith) ∙ ap (λ (n : ℕ). take n (c.args.self.now ++ c.args.byte ∷ [])) c.self.told

pub returns-else-self-lt65536 : goal.returns-else-self-lt65536
returns-else-self-lt65536 c = full c.self.inside.bytes _ c.self.inside.filled c.self.view_is (c.args.byte ∷ []) (omega (arith, c.self.invariant)) ∙ ap (λ (n : ℕ). take n (c.args.self.now ++ c.args.byte ∷ [])) c.self.told
