use Rattle.bech32_calls.proofs.Addresses.{unread_address}
use Rattle.bech32_calls.proofs.segwit.refusal_of_unread.Goals as goal

pub returns-in-Text : goal.returns-in-Text
returns-in-Text c text few h m n = unread_address text m n c.in-Text.e few (rw c.in-Text.is at h)

pub returns-in-NotUtf8 : goal.returns-in-NotUtf8
returns-in-NotUtf8 c text few h m n = rw c.in-NotUtf8.is at h
