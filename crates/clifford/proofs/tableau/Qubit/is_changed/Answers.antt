use Rattle.std.proofs.Common.{arith, refl}
use Rattle.std.proofs.lemmas.Grind.{common_steps}
use Rattle.clifford.proofs.SupportQubits.{changed_is}
use Rattle.clifford.proofs.tableau.Qubit.is_changed.Goals as goal

pub returns : goal.returns
returns c =
    let e = changed_is c.args.self.now.bytes.now c.args.self.now.q c.row-x.ensures.image c.row-z.ensures.image c.row-x.ensures.bytes c.row-z.ensures.bytes refl refl in
    grind (arith, common_steps)
