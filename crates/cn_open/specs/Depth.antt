-- How far a plan is opened.

-- Up to its names: its network is made, and each name and each row of its records has its device.
-- Or up to its records: the emulated devices are within the limits, their boundary is certified,
-- and what is recorded behind it is sound.
pub data Depth : Type 0 where
  named : Depth
  sound : Depth
