-- `algebra::write_product` meets its contract.
use Rattle.pauli.proofs.Multiplying.{written_products}
use Rattle.pauli.proofs.algebra.write_product.Goals as goal

pub multiply_places-turns-requires : goal.multiply_places-turns-requires
multiply_places-turns-requires c = search written_products

pub returns : goal.returns
returns c = search written_products
