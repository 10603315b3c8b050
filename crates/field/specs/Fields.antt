-- The three fields.
use Rattle.field.specs.Arithmetic.{Arithmetic}
use Rattle.field.specs.Polynomials.{binary}
use Rattle.field.specs.Modular.{modular}

-- 4 bits, by x^4 + x + 1
abbrev pub nibble : Arithmetic
nibble = binary 4 0x13

-- 8 bits, by x^8 + x^4 + x^3 + x^2 + 1
abbrev pub byte : Arithmetic
byte = binary 8 0x11d

-- whole numbers modulo the prime 65,537
abbrev pub count : Arithmetic
count = modular 65537
