use Rattle.std.proofs.Common.{◌/◌, arith, refl}
use Rattle.std.proofs.lemmas.Result.{IfErr-weaker, on_ok_weaker}
use Rattle.guest_memory.specs.Mapping.{MapFails, ProtectFails}
use Rattle.call_codec.proofs.Images.{is_there, is_written, page_mapped}
use Rattle.call_codec.proofs.image.map_page.Goals as goal

pub returns-clause-ok : goal.returns-clause-ok
returns-clause-ok c =
    on_ok_weaker _
    (λ protected. page_mapped c.args.memory.now c.map.new.self c.args.at c.args.place c.args.bytes.now _
    c.requires.page (omega (arith, c.requires.high)) c.requires.place c.requires.fits c.in_ok-map.ensures.ok c.write_bytes.new.self c.protect.new.self c.args.prot c.in_ok-write_bytes.ensures.ok protected)
    c.protect.ensures.ok

pub returns-in_err-write_bytes-clause-fault : goal.returns-in_err-write_bytes-clause-fault
returns-in_err-write_bytes-clause-fault c =
    absurd (is_written c.args.memory.now c.map.new.self c.args.at c.args.place c.args.bytes.now _
    c.requires.page (omega (arith, c.requires.high)) c.requires.place c.requires.fits c.in_ok-map.ensures.ok refl _ c.in_err-write_bytes.ensures.fault)

pub returns-clause-fault : goal.returns-clause-fault
returns-clause-fault c =
    IfErr-weaker c.protect.result (ProtectFails c.write_bytes.new.self (c.args.at / 4096) 1) (MapFails c.args.memory.now (c.args.at / 4096) 1)
    (λ fault refused. absurd (is_there c.args.memory.now c.map.new.self c.args.at c.args.place c.args.bytes.now _
    c.requires.page (omega (arith, c.requires.high)) c.requires.place c.requires.fits c.in_ok-map.ensures.ok c.write_bytes.new.self fault c.in_ok-write_bytes.ensures.ok refused))
    c.protect.ensures.fault
