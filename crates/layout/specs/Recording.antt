-- Recordings: what a slim file holds.
use Rattle.std.specs.Prelude.{ℕ, Bool, List, Option}

-- a channel's settings
pub record Channel : Type 0 where
  -- how many words it gives in a row
  pub repeats : ℕ
  -- whether differences are written
  pub delta : Bool
  -- by how many places words are rotated right
  pub turn : ℕ
  -- the coder: 0 null, 1 reduced binary, 6 constant
  pub algorithm : ℕ
  -- the type of the words, which has their width
  pub kind : ℕ
  -- R of reduced binary, else 0
  pub narrow : ℕ
  -- the pedestal of reduced binary, the constant's word, else 0
  pub value : ℕ

pub record Section : Type 0 where
  pub channels : List Channel
  pub words : List ℕ

pub record Recording : Type 0 where
  -- the time stamp
  pub stamp : ℕ
  -- flags: whether the size is written, whether pointers are, one channel only, no repeats
  pub sized : Bool
  pub pointed : Bool
  pub single : Bool
  pub unrepeated : Bool
  pub name : Option (List ℕ)
  pub extra : Option (List ℕ)
  pub sections : List Section
  -- raw bytes that make no whole word, behind the last section
  pub leftovers : List ℕ
