-- `sparse_text::write_sparse` meets its contract.
use Rattle.std.proofs.Common.{rules}
use Rattle.pauli.proofs.SparseTexts.{row_whole}
use Rattle.pauli.proofs.sparse_text.write_sparse.Goals as goal

pub returns : goal.returns
returns c = row_whole c.args.phase c.args.letters.now c.new-writer.ensures.front c.new-writer.ensures.same_bytes c.put_sparse.ensures (search rules) c.place.ensures
