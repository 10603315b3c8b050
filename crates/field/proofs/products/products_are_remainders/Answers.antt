use Rattle.field.specs.LawfulFields.{nibble_products, byte_products}
use Rattle.field.proofs.Remainder.{is_remainder}
use Rattle.field.proofs.products.products_are_remainders.Goals as goal

pub returns : goal.returns
returns c = record { nibble = is_remainder 4 0x13 nibble_products; byte = is_remainder 8 0x11d byte_products }
