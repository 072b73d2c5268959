use Rattle.std.proofs.Common.{◌≡◌, ◌≤◌, ◌∙◌, Bool, ap, length, min, rules, arith}
use Rattle.std.proofs.lemmas.List.{take_rest}
use Rattle.bech32_hrp.specs.HrpBytes.{hrp_bytes}
use Rattle.bech32_hrp.proofs.HrpParts.{hrp_bytes-ascii, length-hrp_bytes}
use Rattle.bech32_checksum.proofs.Digits.{length-tabulate}
use Rattle.bech32_encode.proofs.ChecksumEnds.{target-length}
use Rattle.std.proofs.lemmas.Str.Ascii.{IsAscii-nil}
use Rattle.bech32_encode.specs.TextLeft.{front_left, text_left}
use Rattle.bech32_encode.proofs.TextsLeft.{piece_put, put_within, next_piece}
use Rattle.bech32_encode.proofs.pieces.TextInPiecesPieces.put_next.Goals as goal

pub raise_front-requires : goal.raise_front-requires
raise_front-requires g c =
    let laws = g.met.Ck.Checksum in
    let wide = g.met.Ck.MidstateRepr.PackedFe32.wide_law in
    let fits = laws.packing_laws.fits in
    let degree = laws.degree_law in
    let s = c.args.self.now in
    let number = g.Ck.MidstateRepr.PackedFe32.number in
    let code = g.Ck.Checksum.code in
    let hrp = hrp_bytes s.hrp in
    let size = c.min-size.result in
    let is : size ≡ min (length s.bytes.now) 80 = search rules in
    let few : length hrp ≤ 83 = omega (arith, length-hrp_bytes s.hrp, s.hrp.size_fits) in
    let target = target-length code _ _ laws.code_law (length-tabulate _ _) laws.degree_law in
    let u = c.put_bytes-middle.new.engine in
    let put = piece_put number code target (omega arith) s.begun c.is_empty-last.result hrp s.version s.bytes.now size u few is
    c.args.buffer.now c.put_start-start.new.buffer c.put_bytes-middle.new.buffer c.put_end-count.new.buffer c.put_start-start.result c.put_bytes-middle.result c.put_end-count.result
    c.requires c.put_start-start.ensures c.put_bytes-middle.ensures.text c.put_end-count.ensures.text in
    put_within _ _ _ _ put

pub returns-clause-bound : goal.returns-clause-bound
returns-clause-bound g c =
    let laws = g.met.Ck.Checksum in
    let wide = g.met.Ck.MidstateRepr.PackedFe32.wide_law in
    let fits = laws.packing_laws.fits in
    let degree = laws.degree_law in
    let s = c.args.self.now in
    let number = g.Ck.MidstateRepr.PackedFe32.number in
    let code = g.Ck.Checksum.code in
    let hrp = hrp_bytes s.hrp in
    let size = c.min-size.result in
    let is : size ≡ min (length s.bytes.now) 80 = search rules in
    let few : length hrp ≤ 83 = omega (arith, length-hrp_bytes s.hrp, s.hrp.size_fits) in
    let target = target-length code _ _ laws.code_law (length-tabulate _ _) laws.degree_law in
    let u = c.put_bytes-middle.new.engine in
    let put = piece_put number code target (omega arith) s.begun c.is_empty-last.result hrp s.version s.bytes.now size u few is
    c.args.buffer.now c.put_start-start.new.buffer c.put_bytes-middle.new.buffer c.put_end-count.new.buffer c.put_start-start.result c.put_bytes-middle.result c.put_end-count.result
    c.requires c.put_start-start.ensures c.put_bytes-middle.ensures.text c.put_end-count.ensures.text in
    let (bound, piece, ends, ascii) = next_piece number code target (omega arith) s.begun c.is_empty-last.result hrp s.version s.bytes.now size u few is
    s.upper _ c.args.buffer.now c.put_end-count.new.buffer c.raise_front.new.buffer c.put_end-count.result s.engine c.put_end-count.new.engine (hrp_bytes-ascii s.hrp) (take_rest s.bytes.now size)
    c.is_empty-last.ensures put c.raise_front.ensures c.put_bytes-middle.ensures.residue c.put_end-count.ensures.kept in
    bound

pub returns-clause-piece : goal.returns-clause-piece
returns-clause-piece g c =
    let laws = g.met.Ck.Checksum in
    let wide = g.met.Ck.MidstateRepr.PackedFe32.wide_law in
    let fits = laws.packing_laws.fits in
    let degree = laws.degree_law in
    let s = c.args.self.now in
    let number = g.Ck.MidstateRepr.PackedFe32.number in
    let code = g.Ck.Checksum.code in
    let hrp = hrp_bytes s.hrp in
    let size = c.min-size.result in
    let is : size ≡ min (length s.bytes.now) 80 = search rules in
    let few : length hrp ≤ 83 = omega (arith, length-hrp_bytes s.hrp, s.hrp.size_fits) in
    let target = target-length code _ _ laws.code_law (length-tabulate _ _) laws.degree_law in
    let u = c.put_bytes-middle.new.engine in
    let put = piece_put number code target (omega arith) s.begun c.is_empty-last.result hrp s.version s.bytes.now size u few is
    c.args.buffer.now c.put_start-start.new.buffer c.put_bytes-middle.new.buffer c.put_end-count.new.buffer c.put_start-start.result c.put_bytes-middle.result c.put_end-count.result
    c.requires c.put_start-start.ensures c.put_bytes-middle.ensures.text c.put_end-count.ensures.text in
    let (bound, piece, ends, ascii) = next_piece number code target (omega arith) s.begun c.is_empty-last.result hrp s.version s.bytes.now size u few is
    s.upper _ c.args.buffer.now c.put_end-count.new.buffer c.raise_front.new.buffer c.put_end-count.result s.engine c.put_end-count.new.engine (hrp_bytes-ascii s.hrp) (take_rest s.bytes.now size)
    c.is_empty-last.ensures put c.raise_front.ensures c.put_bytes-middle.ensures.residue c.put_end-count.ensures.kept in
    ap (λ (b : Bool). text_left number code b s.upper (front_left s.begun hrp s.version) s.engine s.bytes.now) c.if-self.false ∙ piece

pub returns-clause-ends : goal.returns-clause-ends
returns-clause-ends g c =
    let laws = g.met.Ck.Checksum in
    let wide = g.met.Ck.MidstateRepr.PackedFe32.wide_law in
    let fits = laws.packing_laws.fits in
    let degree = laws.degree_law in
    let s = c.args.self.now in
    let number = g.Ck.MidstateRepr.PackedFe32.number in
    let code = g.Ck.Checksum.code in
    let hrp = hrp_bytes s.hrp in
    let size = c.min-size.result in
    let is : size ≡ min (length s.bytes.now) 80 = search rules in
    let few : length hrp ≤ 83 = omega (arith, length-hrp_bytes s.hrp, s.hrp.size_fits) in
    let target = target-length code _ _ laws.code_law (length-tabulate _ _) laws.degree_law in
    let u = c.put_bytes-middle.new.engine in
    let put = piece_put number code target (omega arith) s.begun c.is_empty-last.result hrp s.version s.bytes.now size u few is
    c.args.buffer.now c.put_start-start.new.buffer c.put_bytes-middle.new.buffer c.put_end-count.new.buffer c.put_start-start.result c.put_bytes-middle.result c.put_end-count.result
    c.requires c.put_start-start.ensures c.put_bytes-middle.ensures.text c.put_end-count.ensures.text in
    let (bound, piece, ends, ascii) = next_piece number code target (omega arith) s.begun c.is_empty-last.result hrp s.version s.bytes.now size u few is
    s.upper _ c.args.buffer.now c.put_end-count.new.buffer c.raise_front.new.buffer c.put_end-count.result s.engine c.put_end-count.new.engine (hrp_bytes-ascii s.hrp) (take_rest s.bytes.now size)
    c.is_empty-last.ensures put c.raise_front.ensures c.put_bytes-middle.ensures.residue c.put_end-count.ensures.kept in
    λ none. ap (λ (b : Bool). text_left number code b s.upper (front_left s.begun hrp s.version) s.engine s.bytes.now) c.if-self.false ∙ ends none

pub returns-clause-ascii : goal.returns-clause-ascii
returns-clause-ascii g c =
    let laws = g.met.Ck.Checksum in
    let wide = g.met.Ck.MidstateRepr.PackedFe32.wide_law in
    let fits = laws.packing_laws.fits in
    let degree = laws.degree_law in
    let s = c.args.self.now in
    let number = g.Ck.MidstateRepr.PackedFe32.number in
    let code = g.Ck.Checksum.code in
    let hrp = hrp_bytes s.hrp in
    let size = c.min-size.result in
    let is : size ≡ min (length s.bytes.now) 80 = search rules in
    let few : length hrp ≤ 83 = omega (arith, length-hrp_bytes s.hrp, s.hrp.size_fits) in
    let target = target-length code _ _ laws.code_law (length-tabulate _ _) laws.degree_law in
    let u = c.put_bytes-middle.new.engine in
    let put = piece_put number code target (omega arith) s.begun c.is_empty-last.result hrp s.version s.bytes.now size u few is
    c.args.buffer.now c.put_start-start.new.buffer c.put_bytes-middle.new.buffer c.put_end-count.new.buffer c.put_start-start.result c.put_bytes-middle.result c.put_end-count.result
    c.requires c.put_start-start.ensures c.put_bytes-middle.ensures.text c.put_end-count.ensures.text in
    let (bound, piece, ends, ascii) = next_piece number code target (omega arith) s.begun c.is_empty-last.result hrp s.version s.bytes.now size u few is
    s.upper _ c.args.buffer.now c.put_end-count.new.buffer c.raise_front.new.buffer c.put_end-count.result s.engine c.put_end-count.new.engine (hrp_bytes-ascii s.hrp) (take_rest s.bytes.now size)
    c.is_empty-last.ensures put c.raise_front.ensures c.put_bytes-middle.ensures.residue c.put_end-count.ensures.kept in
    ascii

pub returns-then-self-clause-ends : goal.returns-then-self-clause-ends
returns-then-self-clause-ends g c =
    let s = c.args.self.now in
    λ none. ap (λ (b : Bool). text_left g.Ck.MidstateRepr.PackedFe32.number g.Ck.Checksum.code b s.upper (front_left s.begun (hrp_bytes s.hrp) s.version) s.engine s.bytes.now) c.if-self.true

pub returns-then-self-clause-ascii : goal.returns-then-self-clause-ascii
returns-then-self-clause-ascii g c = IsAscii-nil
