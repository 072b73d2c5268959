-- Headers: what stands before the payload of a string.
use Rattle.std.specs.Prelude.{List}
use Rattle.bech32_gf.specs.declared.gf32.Fe32.{Fe32}
use Rattle.codex32.specs.HeaderParts.{header_elements_of}
use Rattle.codex32.specs.declared.header.Header.{Header}
use Rattle.codex32.specs.declared.identifier.Identifier.{Identifier}
use Rattle.codex32.specs.declared.threshold.Threshold.{Threshold}

abbrev pub threshold_of_header : Header → Threshold
threshold_of_header h = h.threshold

abbrev pub identifier_of_header : Header → Identifier
identifier_of_header h = h.identifier

abbrev pub share_index_of_header : Header → Fe32
share_index_of_header h = h.share_index

-- the first six elements of a data part
abbrev pub header_elements : Header → List Fe32
header_elements h = header_elements_of h.threshold h.identifier h.share_index
