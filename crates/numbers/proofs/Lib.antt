mod FixedNumber
