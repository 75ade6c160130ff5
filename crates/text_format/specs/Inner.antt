-- Text put into a lent buffer, as the functions that put parts of it promise it.
use Rattle.std.specs.Prelude.{◌≡◌, List, ℕ, ◌+◌, ◌≤◌, length}
use Rattle.std.proofs.lemmas.List.Edits.{sets}
use Rattle.text_format.specs.declared.Text.{Text}

-- a buffer that has become another by a text stored from a place on, and the place behind it
pub record Put (entry : List ℕ) (at : ℕ) (text exit : List ℕ) (next : ℕ) : Type 0 where
  pub cells : exit ≡ sets entry at text
  pub place : next ≡ at + length text
  pub room : next ≤ length entry

-- room for so many characters more
abbrev pub HasRoom : Text → ℕ → Type 0
HasRoom text n = text.at + n ≤ length text.buf.now

-- a text that has become another by a part put at its place, in the same buffer
pub record Puts (old : Text) (part : List ℕ) (new : Text) : Type 0 where
  pub same_buffer : new.buf.ghost_name ≡ old.buf.ghost_name
  pub same_length : length new.buf.now ≡ length old.buf.now
  pub put : Put old.buf.now old.at part new.buf.now new.at
