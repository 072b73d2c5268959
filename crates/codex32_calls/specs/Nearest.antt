-- The nearest texts by each checksum.
use Rattle.std.specs.Prelude.{ℕ, List, Option}
use Rattle.codex32.specs.Nearest.{IsNearestLongText}
use Rattle.codex32.specs.Damaged.{read_text}
use Rattle.codex32.specs.Nearest.{IsNearestText, IsProposeLongRefusal, IsProposeRefusal}
use Rattle.codex32.specs.Strings.{frame_refusal, long_frame_refusal}
use Rattle.codex32.specs.declared.error.Codex32Error.{Codex32Error}
use Rattle.codex32_calls.specs.declared.propose.Kind.{Kind}
use Rattle.codex32_calls.specs.declared.propose.Kind.TheVariants.{Short, Long}

-- the nearest text of strings of this kind
abbrev pub IsNearest : Kind → List ℕ → List ℕ → Type 0
IsNearest Short text nearest = IsNearestText text nearest
IsNearest Long text nearest = IsNearestLongText text nearest

-- what is wrong with a damaged text as it is read, but for its checksum
abbrev pub damaged_refusal : Kind → List ℕ → Option Codex32Error
damaged_refusal Short text = frame_refusal (read_text text)
damaged_refusal Long text = long_frame_refusal (read_text text)

-- the same, or out of memory
abbrev pub IsNearestStringRefusal : Kind → List ℕ → Codex32Error → Type 0
IsNearestStringRefusal Short text e = IsProposeRefusal text e
IsNearestStringRefusal Long text e = IsProposeLongRefusal text e
