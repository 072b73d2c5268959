-- The human-readable part of codex32 strings (BIP-93, codex32).
use Rattle.std.specs.Prelude.{ℕ, List, [], ◌∷◌}

-- `ms`
abbrev pub ms : List ℕ
ms = 109 ∷ 115 ∷ []
