-- `listen_damaged` meets its contract.
use Rattle.listening.specs.Frames.{heard-small}
use native.Mathlib.Omega.{arith}
use Rattle.listening.proofs.listen_damaged.Goals as goal

pub hear-requires : goal.hear-requires
hear-requires c =
    let pre = c.requires in
    let put = c.put_damages-next.ensures in
    (pre.valid, pre.setting, omega (arith, put.0, pre.inside), pre.inside, heard-small pre put.1, pre.early, pre.few_reports, pre.few_wrong)
