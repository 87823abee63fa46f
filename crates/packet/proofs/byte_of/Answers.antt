use Rattle.std.proofs.Common.{◌%◌, get_or, ap, ◌∙◌, arith}
use Rattle.packet.specs.Packets.{byte}
use Rattle.packet.proofs.PacketLaws.{be_byte}
use Rattle.packet.proofs.byte_of.Goals as goal

pub returns : goal.returns
unfolding byte
returns c = ap (λ b. get_or b (c.args.place % 4) 0) c.to_be_bytes.ensures ∙ be_byte _ (c.args.place % 4) (omega arith)
