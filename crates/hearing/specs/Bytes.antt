-- What a list of bytes makes of the progress, and its lines: those of the Feeds that the bytes are.
use Rattle.std.specs.Prelude.{◌≡◌, List, ◌++◌, ℕ}
use Rattle.std.proofs.Common.{ap, ◌∙◌}
use Rattle.characters.specs.ByteSymbols.{feeds_of}
use Rattle.characters.proofs.Decoding.{feeds-append}
use Rattle.progress.specs.Progress.{after_feeds, text_feeds}
use Rattle.progress.specs.Steps.{after-append, text-append}
use Rattle.progress.specs.declared.Progress.{Progress}

-- a list of bytes: the list of Feeds that they are
abbrev pub after_of : Progress → List ℕ → Progress
after_of p bytes = after_feeds p (feeds_of bytes)

abbrev pub text_of : Progress → List ℕ → List ℕ
text_of p bytes = text_feeds p (feeds_of bytes)

-- ---- parts of the bytes

pub after-parts : (p : Progress) (xs ys : List ℕ) → after_of p (xs ++ ys) ≡ after_of (after_of p xs) ys
after-parts p xs ys = ap (after_feeds p) (feeds-append xs ys) ∙ after-append p (feeds_of xs) (feeds_of ys)

pub text-parts : (p : Progress) (xs ys : List ℕ) → text_of p (xs ++ ys) ≡ text_of p xs ++ text_of (after_of p xs) ys
text-parts p xs ys = ap (text_feeds p) (feeds-append xs ys) ∙ text-append p (feeds_of xs) (feeds_of ys)
