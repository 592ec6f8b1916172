-- What the functions that write a description ensure.
-- Assumes nothing.
use Rattle.std.specs.Prelude.{List, ℕ, ◌≤◌, length}
use Rattle.buffer.specs.Puts.{PutsText}
use Rattle.buffer.specs.Texts.{IsText}
use Rattle.color_encoding.specs.declared.JxlColorEncoding.{JxlColorEncoding}
use Rattle.text.specs.Description.{description, max_bytes, max_bytes_in_range}
use Rattle.text.specs.Held.{WhiteInRange}
use Rattle.buffer.specs.declared.Text.{Text}

-- a text that is as short as every description, and as one whose white is in range where what is asked holds
pub record Short (Asked : Type 0) (text : List ℕ) : Type 0 where
  pub any : length text ≤ max_bytes
  pub accepted : Asked → length text ≤ max_bytes_in_range

-- a whole text, put to the front
pub record PutsDescription (Asked : Type 0) (text l : List ℕ) (r : ℕ) (out : List ℕ) : Type 0 where
  pub puts : PutsText l 0 text r out
  pub short : Short Asked text

-- the description by value
pub record Describes (e : JxlColorEncoding) (text : Text max_bytes) : Type 0 where
  pub is_text : IsText (description e) text
  pub short : Short (WhiteInRange e) (description e)
