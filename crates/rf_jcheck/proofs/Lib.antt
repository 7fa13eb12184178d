mod StmtWeights
