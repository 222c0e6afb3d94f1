-- What is read of bytes: little-endian numbers, and the fields of a span's last record, its root
-- (document 01, "The tangle file"). One reader for each field.
use Rattle.std.specs.Prelude.{ℕ, ◌+◌, ◌-◌, ◌*◌, ◌^◌, List, length, get_or, ltb}
use Rattle.base.specs.Choice.{when}
use Rattle.base.specs.Limits.{record_length}

-- the number in two, four or eight bytes from place i on, little-endian; what lies past the end counts as 0
unfoldable pub u16 : List ℕ → ℕ → ℕ
u16 s i = get_or s i 0 + get_or s (i + 1) 0 * 2 ^ 8

unfoldable pub u32 : List ℕ → ℕ → ℕ
u32 s i = u16 s i + u16 s (i + 2) * 2 ^ 16

unfoldable pub u64 : List ℕ → ℕ → ℕ
u64 s i = u32 s i + u32 s (i + 4) * 2 ^ 32

-- byte 0 of the root: its kind
unfoldable pub kind : List ℕ → ℕ
kind s = get_or s (length s - record_length) 0

-- byte 1 of the root
unfoldable pub byte1 : List ℕ → ℕ
byte1 s = get_or s (length s - 15) 0

-- byte 5 of the root
unfoldable pub byte5 : List ℕ → ℕ
byte5 s = get_or s (length s - 11) 0

-- the variable number of a root of kind Variable: its low byte in byte 1, its high byte in byte 5
unfoldable pub var_index : List ℕ → ℕ
var_index s = byte1 s + byte5 s * 2 ^ 8

-- the shift count or cast width of a root with one child; 0 for Not and Neg
unfoldable pub amount : List ℕ → ℕ
amount s = byte1 s

-- bytes 2 and 3 of the root: its size in records, all below it included
unfoldable pub size : List ℕ → ℕ
size s = u16 s (length s - 14)

-- byte 4 of the root: its width
unfoldable pub width : List ℕ → ℕ
width s = get_or s (length s - 12) 0

-- bytes 6 and 7 of the root, which no kind uses
unfoldable pub spare_high : List ℕ → ℕ
spare_high s = u16 s (length s - 10)

-- byte 5 of the root and the two behind it, as a sum, which is 0 where all three are; a variable alone uses byte 5
unfoldable pub spare : List ℕ → ℕ
spare s = byte5 s + spare_high s

-- bytes 8 to 15 of the root: its literal
unfoldable pub literal : List ℕ → ℕ
literal s = u64 s (length s - 8)

-- how many children a kind has (expr.rs 43-54): none for 0 and 1, two for 2 to 6 and 13, one for 7 to 12
unfoldable pub arity : ℕ → ℕ
arity k = when (ltb k 2) (λ _. 0) (λ _. when (ltb k 7) (λ _. 2) (λ _. when (ltb k 13) (λ _. 1) (λ _. 2)))
