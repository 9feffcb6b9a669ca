-- Document 01, "Session lines": one line is one frame. Byte 0 is the kind. A line of any other form, a blank one too, is malformed.
-- Assumes nothing.
use Rattle.std.specs.Prelude.{Bool, cond, ◌&&◌, List, ℕ, eqb, length}
use Rattle.frames.specs.Hex.{is_hex, bytes_of}
use Rattle.frames.specs.Number.{byte, two, n8_at}
use Rattle.frames.specs.declared.frame.MoveNumbers.{MoveNumbers}
use Rattle.frames.specs.declared.frame.OrderNumbers.{OrderNumbers}
use Rattle.frames.specs.declared.frame.Frame.{Frame}
use Rattle.frames.specs.declared.frame.Frame.TheVariants.{Parameter, Open, Move, Order, Roll, Report, Malformed}

-- so many bytes, the first of which is the kind
unfoldable pub shaped : ℕ → ℕ → List ℕ → Bool
shaped size kind bytes = eqb (length bytes) size && eqb (byte bytes 0) kind

-- the numbers of a move: account, asset, n8
unfoldable pub move_numbers : List ℕ → MoveNumbers
move_numbers bytes = record { account = byte bytes 1; asset = byte bytes 2; amount = n8_at bytes 3 }

-- and of an order: account, asset, date, side, quantity n8, money n8
unfoldable pub order_numbers : List ℕ → OrderNumbers
order_numbers bytes = record {
  account = byte bytes 1;
  asset = byte bytes 2;
  date = byte bytes 3;
  side = byte bytes 4;
  quantity = n8_at bytes 5;
  money = n8_at bytes 13;
}

-- 01 place (2 bytes) n8. 02 account, kind, settlement code (document 02, #104). 03 a move. 04 an order. 05 account. 06 account
unfoldable pub frame_of : List ℕ → Frame
frame_of bytes =
    cond (shaped 11 1 bytes) (Parameter (two bytes 1) (n8_at bytes 3))
    (cond (shaped 4 2 bytes) (Open (byte bytes 1) (byte bytes 2) (byte bytes 3))
    (cond (shaped 11 3 bytes) (Move (move_numbers bytes))
    (cond (shaped 21 4 bytes) (Order (order_numbers bytes))
    (cond (shaped 2 5 bytes) (Roll (byte bytes 1))
    (cond (shaped 2 6 bytes) (Report (byte bytes 1))
    Malformed)))))

-- the frame of a line
unfoldable pub line_frame : List ℕ → Frame
line_frame line = cond (is_hex line) (frame_of (bytes_of line)) Malformed
