use Rattle.std.proofs.Common.{length}
use Rattle.bech32.specs.Contents.{content_of}
use Rattle.bech32.specs.declared.content.Content.TheVariants.{Bytes, Elements}
use Rattle.bech32.proofs.Contents.{elements-size, whole_buffer}
use Rattle.bech32.proofs.content.put_content.Goals as goal

pub returns-in-Bytes : goal.returns-in-Bytes
returns-in-Bytes c =
    rw c.in-Bytes.is
    (whole_buffer (content_of Bytes c.args.checked.now.ascii.now) c.args.buffer.now c.put_bytes.new.buffer c.put_bytes.result c.put_bytes.ensures.buffer c.put_bytes.ensures.count
    (rw c.in-Bytes.is at c.requires))

pub returns-in-Elements : goal.returns-in-Elements
returns-in-Elements c =
    let characters = c.args.checked.now.ascii.now in
    rw c.in-Elements.is
    (whole_buffer (content_of Elements characters) c.args.buffer.now c.put_elements.new.buffer (length characters)
    (rw c.data_part_ascii_no_checksum.ensures.value at c.put_elements.ensures.buffer) (elements-size characters) (rw c.in-Elements.is at c.requires))
