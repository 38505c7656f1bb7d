mod AwakeNumbers
mod SameWays
