mod PieceFrames
