-- What a checksum looks up.
use Rattle.std.specs.Prelude.{Option, Some, None, ⊤}
use Rattle.bech32_checksum.specs.declared.lookups.Lookup.{Lookup}
use Rattle.bech32_checksum.specs.declared.lookups.Lookup.TheVariants.{NoTable, Absent, Found}

-- one fact if nothing leaves the residue, and another of what leaves it; nothing without a table
abbrev pub MatchLookup : {T : Type 0} → Lookup T → Type 0 → (T → Type 0) → Type 0
MatchLookup NoTable absent found = ⊤
MatchLookup Absent absent found = absent
MatchLookup (Found x) absent found = found x

-- a fact of what leaves the residue, or of None if nothing does; without a table nothing is said
abbrev pub IfLookedUp : {T : Type 0} → Lookup T → (Option T → Type 0) → Type 0
IfLookedUp NoTable is = ⊤
IfLookedUp Absent is = is None
IfLookedUp (Found x) is = is (Some x)
