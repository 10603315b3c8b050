-- The laws of the three fields: those of the binary ones by tests at their widths, which antt computes.
use Rattle.std.proofs.Common.{refl, lit<, lit≤}
use Rattle.field.specs.Arithmetic.{Lawful}
use Rattle.field.specs.Polynomials.{carryless, remainder, mul_mod}
use Rattle.field.specs.Modular.{modular}
use Rattle.field.specs.Powers.{Cyclic}
use Rattle.field.specs.Products.{Basis, Products, products}
use Rattle.field.specs.PowersOfX.{Tables, powers_from, place, places_from}
use Rattle.field.specs.BinaryField.{cyclic}
use Rattle.field.specs.Residues.{laws}
use Rattle.field.specs.Prime.{prime}

-- the tests on the powers of x, computed
nibble_basis : Basis 4 0x13
unfolding mul_mod carryless remainder
nibble_basis = record { below = refl; one = refl; comm = refl; assoc = refl }

-- the same for the byte field
byte_basis : Basis 8 0x11d
unfolding mul_mod carryless remainder
byte_basis = record { below = refl; one = refl; comm = refl; assoc = refl }

-- the laws of the products
pub nibble_products : Products 4 0x13
nibble_products = products 4 0x13 nibble_basis

-- the same for the byte field
pub byte_products : Products 8 0x11d
byte_products = products 8 0x11d byte_basis

-- the tests of the tables, computed
pub nibble_tables : Tables 4 0x13
unfolding mul_mod carryless remainder powers_from place places_from
nibble_tables = record { logs = refl; turn = refl }

-- the same for the byte field
pub byte_tables : Tables 8 0x11d
unfolding mul_mod carryless remainder powers_from place places_from
byte_tables = record { logs = refl; turn = refl }

-- the laws of the nibble field
pub nibble : Cyclic 4 0x13
nibble = cyclic 4 0x13 nibble_products (lit≤ tt) (lit≤ tt) nibble_tables

-- the laws of the byte field
pub byte : Cyclic 8 0x11d
byte = cyclic 8 0x11d byte_products (lit≤ tt) (lit≤ tt) byte_tables

-- the laws of the count field, since 65537 is prime
pub count : Lawful (modular 65537)
count = laws 65537 (lit< tt) prime (lit≤ tt) (lit≤ tt)
