mod AllZero
