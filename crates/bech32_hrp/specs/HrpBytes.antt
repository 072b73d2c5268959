-- The bytes of a human-readable part.
use Rattle.std.specs.Prelude.{◌≡◌, ℕ, ◌-◌, ◌^◌, List, take, None, Some, Result, Err, MatchResult}
use Rattle.bech32_hrp.specs.declared.Error.{Error}
use Rattle.bech32_hrp.specs.declared.Error.TheVariants.{TooLong}
use Rattle.bech32_hrp.specs.declared.Hrp.{Hrp}
use Rattle.bech32_hrp.specs.Hrp.{lowered, hrp_refusal}

-- the bytes, in the case that they were parsed in
abbrev pub hrp_bytes : Hrp → List ℕ
hrp_bytes h = take h.size h.buf

-- the bytes in lower case: two human-readable parts are equal where these are
abbrev pub lowered_bytes : Hrp → List ℕ
lowered_bytes h = lowered (hrp_bytes h)

-- what reading a text returns: the part of these bytes where nothing is wrong with them, else why
-- not
abbrev pub IsParsed : List ℕ → Result Hrp Error → Type 0
IsParsed text r =
    MatchResult r
    (λ h. (hrp_refusal text ≡ None) × (hrp_bytes h ≡ text))
    (λ e. hrp_refusal text ≡ Some e)

-- what reading a text in pieces returns where a usize cannot count its bytes: it is too long, with
-- the highest count
abbrev pub IsBeyondCount : Result Hrp Error → Type 0
IsBeyondCount r = r ≡ Err (TooLong (2 ^ 64 - 1))
