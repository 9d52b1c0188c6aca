-- `put_run` meets its contract: the part between the places is filled.
use Rattle.std.proofs.Common.{◌≡◌, ◌-◌, rules}
use Rattle.std.specs.Prelude.{replicate}
use Rattle.manchester_encode.specs.Encoding.{run_put}
use Rattle.manchester_encode.proofs.put_run.Goals as goal

pub returns : goal.returns
returns c =
    let filled : c.fill.new.self ≡ replicate (c.args.to - c.args.from) c.args.level = search rules in
    run_put c.args.cycles.now c.fill.new.self c.args.from c.args.to c.args.level c.requires.0 c.requires.1 filled
