-- Read, the converters and decoding alone refuse with 5, 6 or 25: a struct without an index leaves out no value of a refusal.
use Rattle.std.specs.Prelude.{List, [], ℤ}
use Rattle.timecode.specs.Answers.{Outcome}
use Rattle.ffi.specs.Fields.{unless_refused}

-- the values of a refusal
abbrev pub refused_values : Outcome → List ℤ
refused_values s = unless_refused s [] s.values
