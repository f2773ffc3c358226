-- Where things stand in a picture. Lengths are in units of the picture, at a font of 11: a letter
-- is at most 7 wide. Columns stand side by side in bands of 120, one band below the other.
use Rattle.std.specs.Prelude.{ℕ, ◌+◌, ◌*◌, ◌%◌, ◌/◌, min}
use Rattle.picture_parts.specs.declared.frames.Frame.{Frame}
use Rattle.picture_parts.specs.declared.frames.CellPosition.{CellPosition}

-- how wide a column is
abbrev pub column_width : (digits : ℕ) → ℕ
column_width digits = 8 + 7 * digits

-- the left side of a column, in its band
abbrev pub column_left : (digits column : ℕ) → ℕ
column_left digits column = 52 + column % 120 * column_width digits

-- the middle of a column
abbrev pub column_middle : (digits column : ℕ) → ℕ
column_middle digits column = column_left digits column + column_width digits / 2

-- the top of a column's band
abbrev pub band_top : (height column : ℕ) → ℕ
band_top height column = column / 120 * height

-- the configuration of a spot
abbrev pub configuration : CellPosition → ℕ
configuration spot = spot.frame.first + spot.column

-- the left side of a spot, and its middle
abbrev pub left : CellPosition → ℕ
left spot = column_left spot.frame.digits spot.column

abbrev pub middle : CellPosition → ℕ
middle spot = column_middle spot.frame.digits spot.column

-- how wide it is
abbrev pub width : CellPosition → ℕ
width spot = column_width spot.frame.digits

-- its top, below those of the bands before its own
abbrev pub spot_top : CellPosition → ℕ
spot_top spot = band_top spot.frame.height spot.column + spot.top

-- what is below all bands
abbrev pub bottom : Frame → ℕ
bottom frame = (frame.columns + 119) / 120 * frame.height

-- what is on the right of all columns
abbrev pub right : Frame → ℕ
right frame = 60 + min frame.columns 120 * column_width frame.digits

-- the top of a node's line in a band of rows
abbrev pub line_top : (node : ℕ) → ℕ
line_top node = 30 + 18 * node

-- how high a band of rows is
abbrev pub band_height : (nodes : ℕ) → ℕ
band_height nodes = 80 + 18 * nodes
